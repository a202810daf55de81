-- Hub labellings: a row of entries for each node (Planting Trees, PVLDB 2019; pruned landmark labelling, SIGMOD 2013).
use Rattle.std.specs.Prelude.{◌≡◌, ◌↔◌, ℕ, ◌-◌, ◌≤◌, Some, List, [], length, map, Contains, slice_get, slice_index_or}
use Rattle.std.specs.List.Sorted.{IsStrictlyIncreasing}
use Rattle.walk_laws.specs.declared.entry.Entry.{Entry}
use Rattle.walk_laws.specs.Walk.{HasWalk}
use Rattle.walk_laws.specs.Canonical.{IsCanonical}
use Rattle.walk_laws.specs.Ranking.{position_of}

-- the row of the node v in a labelling, whose first row is that of node 1
abbrev pub label_row : List (List Entry) → ℕ → List Entry
label_row rows v = slice_index_or rows (v - 1) []

-- the entry's position is that of a hub of v, at this distance
abbrev pub IsHubEntry : (ℕ → ℕ → ℕ → Type 0) → List ℕ → ℕ → Entry → Type 0
IsHubEntry J at v e = (h : ℕ) × (slice_get at e.pos ≡ Some h) × IsCanonical J at h v e.dist

-- the row holds exactly the hubs of v, by rising position
pub record IsRow (J : ℕ → ℕ → ℕ → Type 0) (at : List ℕ) (v : ℕ) (row : List Entry) : Type 0 where
  pub rising : IsStrictlyIncreasing (map (λ e. e.pos) row)
  pub each : (e : Entry) → Contains row e ↔ IsHubEntry J at v e

-- the canonical hub labelling: a row for each node, with exactly its hubs
pub record IsChl (J : ℕ → ℕ → ℕ → Type 0) (at : List ℕ) (rows : List (List Entry)) : Type 0 where
  pub size : length rows ≡ length at
  pub row : (v : ℕ) → 1 ≤ v → v ≤ length at → IsRow J at v (label_row rows v)

-- the row holds exactly the hubs of v at the positions of a set, by rising position
pub record IsPartRow (J : ℕ → ℕ → ℕ → Type 0) (at : List ℕ) (InPart : ℕ → Type 0) (v : ℕ) (row : List Entry) : Type 0 where
  pub rising : IsStrictlyIncreasing (map (λ e. e.pos) row)
  pub each : (e : Entry) → Contains row e ↔ (IsHubEntry J at v e × InPart e.pos)

-- the part of the canonical hub labelling at the positions of a set: a row for each node, with exactly its hubs there
pub record IsPartChl (J : ℕ → ℕ → ℕ → Type 0) (at : List ℕ) (InPart : ℕ → Type 0) (rows : List (List Entry)) : Type 0 where
  pub size : length rows ≡ length at
  pub row : (v : ℕ) → 1 ≤ v → v ≤ length at → IsPartRow J at InPart v (label_row rows v)

-- an entry that may stand in the row of v: its hub ranks no lower than v, and a walk of its distance leads from the hub to v
pub record EntryFits (J : ℕ → ℕ → ℕ → Type 0) (at : List ℕ) (v : ℕ) (e : Entry) : Type 0 where
  pub ranked : e.pos ≤ position_of at v
  pub walk : (h : ℕ) × (slice_get at e.pos ≡ Some h) × HasWalk J h v e.dist
