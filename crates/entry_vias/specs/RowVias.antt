-- Vias as the rows of an index tell them, whatever the rows are: an entry's via is the least neighbour of its node that is nearer to the hub.
use Rattle.std.specs.Prelude.{◌≡◌, ◌≢◌, ◌⊎◌, ℕ, ◌+◌, ◌-◌, ◌≤◌, List, [], ◌∷◌, ◌++◌, All, Contains, length, slice_index_or}
use Rattle.std.specs.List.{AllZip}
use Rattle.walk_laws.specs.declared.entry.Entry.{Entry}
use Rattle.walk_laws.specs.Labelling.{label_row}

-- the neighbour y of v has the hub of the entry e of v, nearer by the weight of an arc between
pub record IsNearer (J : ℕ → ℕ → ℕ → Type 0) (rows : List (List Entry)) (v : ℕ) (e : Entry) (y : ℕ) : Type 0 where
  pub weight : ℕ
  pub dist : ℕ
  pub arc : J v y weight
  pub there : Contains (label_row rows y) (record { pos = e.pos; dist = dist })
  pub long : dist + weight ≡ e.dist

-- and y is the least such neighbour
pub record IsFirstNearer (J : ℕ → ℕ → ℕ → Type 0) (rows : List (List Entry)) (v : ℕ) (e : Entry) (y : ℕ) : Type 0 where
  pub nearer : IsNearer J rows v e y
  pub least : (z : ℕ) → IsNearer J rows v e z → y ≤ z

-- the via of the entry e of v: the least neighbour that is nearer, or 0 where none is
abbrev pub IsRowVia : (ℕ → ℕ → ℕ → Type 0) → List (List Entry) → ℕ → Entry → ℕ → Type 0
IsRowVia J rows v e y = IsFirstNearer J rows v e y ⊎ ((y ≡ 0) × ((z : ℕ) → ¬ IsNearer J rows v e z))

-- one via for each entry of the row of v
abbrev pub AreRowVias : (ℕ → ℕ → ℕ → Type 0) → List (List Entry) → ℕ → List ℕ → Type 0
AreRowVias J rows v vias = AllZip (IsRowVia J rows v) (label_row rows v) vias

-- the vias of the row of the node v, where the first list has those of node 1
abbrev pub via_row : List (List ℕ) → ℕ → List ℕ
via_row vias v = slice_index_or vias (v - 1) []

-- the vias of all rows
pub record AreVias (J : ℕ → ℕ → ℕ → Type 0) (rows : List (List Entry)) (vias : List (List ℕ)) : Type 0 where
  pub size : length vias ≡ length rows
  pub row : (v : ℕ) → 1 ≤ v → v ≤ length rows → AreRowVias J rows v (via_row vias v)

-- vias that a row of v may have beside it in an index of n nodes: the last is 0, and each other a node, but v
pub record IsViaRow (n v : ℕ) (row : List Entry) (vias : List ℕ) : Type 0 where
  pub size : length vias ≡ length row
  pub others : List ℕ
  pub ends : vias ≡ others ++ 0 ∷ []
  pub node : All (λ y. (1 ≤ y) × (y ≤ n) × (y ≢ v)) others

-- such vias beside each row
pub record HaveVias (rows : List (List Entry)) (vias : List (List ℕ)) : Type 0 where
  pub size : length vias ≡ length rows
  pub row : (v : ℕ) → 1 ≤ v → v ≤ length rows → IsViaRow (length rows) v (label_row rows v) (via_row vias v)

-- an index with its vias: the nodes, highest rank first, and for each node a row of entries and the vias of these, node 1 first
pub record TracedHubIndex : Type 0 where
  pub order : List ℕ
  pub rows : List (List Entry)
  pub vias : List (List ℕ)
