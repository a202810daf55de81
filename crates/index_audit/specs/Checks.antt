-- The checks of an entry of an index against a graph, its via left out. They look at the rows of its node, its hub and the node's neighbours alone.
use Rattle.std.specs.Prelude.{◌≡◌, ◌⊎◌, ℕ, ◌+◌, ◌<◌, ◌≤◌, List, Some, slice_get}
use Rattle.walk_laws.specs.declared.entry.Entry.{Entry}
use Rattle.walk_laws.specs.Labelling.{label_row}
use Rattle.walk_laws.specs.Meet.{HasSum}
use Rattle.entry_vias.specs.RowVias.{IsNearer}

-- both rows have the position q, and the sum of their distances is at most d
pub record MeetAt (first second : List Entry) (d q : ℕ) : Type 0 where
  pub sum : ℕ
  pub both : HasSum first second q sum
  pub short : sum ≤ d

-- and no lesser position is so
pub record IsFirstMeet (first second : List Entry) (d q : ℕ) : Type 0 where
  pub here : MeetAt first second d q
  pub least : (r : ℕ) → MeetAt first second d r → q ≤ r

-- the hub h of the entry e in the row of v is v itself, or a step to a neighbour leads nearer to it
abbrev pub IsWalked : (ℕ → ℕ → ℕ → Type 0) → List (List Entry) → ℕ → ℕ → Entry → Type 0
IsWalked J rows v h e = (h ≡ v) ⊎ ((y : ℕ) × IsNearer J rows v e y)

-- the rows of h and of y share a hub with a sum of at most d
abbrev pub IsCoveredAt : List (List Entry) → ℕ → ℕ → ℕ → Type 0
IsCoveredAt rows h y d = (q : ℕ) × MeetAt (label_row rows h) (label_row rows y) d q

-- so it is for each neighbour of v with the way from h by v
abbrev pub IsCovered : (ℕ → ℕ → ℕ → Type 0) → List (List Entry) → ℕ → ℕ → Entry → Type 0
IsCovered J rows v h e = (y w : ℕ) → J v y w → IsCoveredAt rows h y (e.dist + w)

-- by an arc to the neighbour y it isn't
pub record IsUncoveredAt (J : ℕ → ℕ → ℕ → Type 0) (rows : List (List Entry)) (v h : ℕ) (e : Entry) (y : ℕ) : Type 0 where
  pub weight : ℕ
  pub arc : J v y weight
  pub none : ¬ IsCoveredAt rows h y (e.dist + weight)

-- and y is the least such neighbour
pub record IsFirstUncovered (J : ℕ → ℕ → ℕ → Type 0) (rows : List (List Entry)) (v h : ℕ) (e : Entry) (y : ℕ) : Type 0 where
  pub here : IsUncoveredAt J rows v h e y
  pub least : (z : ℕ) → IsUncoveredAt J rows v h e z → y ≤ z

-- the hub at the position q ranks above the hub h of the entry e in the row of v, and a way by it is no longer than the entry
pub record IsRedundantBy (rows : List (List Entry)) (v h : ℕ) (e : Entry) (q : ℕ) : Type 0 where
  pub above : q < e.pos
  pub meet : MeetAt (label_row rows h) (label_row rows v) e.dist q

-- the entry e in the row of v passes these three checks
pub record IsSoundEntry (J : ℕ → ℕ → ℕ → Type 0) (at : List ℕ) (rows : List (List Entry)) (v : ℕ) (e : Entry) : Type 0 where
  pub hub : ℕ
  pub place : slice_get at e.pos ≡ Some hub
  pub walked : IsWalked J rows v hub e
  pub covered : IsCovered J rows v hub e
  pub needed : (q : ℕ) → ¬ IsRedundantBy rows v hub e q
