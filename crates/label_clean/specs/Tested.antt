-- What entries are tested with: rows of which those that are read most are by rising distance, and a table of the distances of a row.
use Rattle.std.specs.Prelude.{◌≡◌, ◌↔◌, ℕ, ◌+◌, ◌/◌, ◌<◌, ◌≤◌, List, Option, Some, Contains, length}
use Rattle.std.specs.List.Sorted.{IsNonDecreasingBy}
use Rattle.walk_laws.specs.declared.entry.Entry.{Entry}
use Rattle.walk_laws.specs.Labelling.{label_row}
use Rattle.walk_laws.specs.Ranking.{position_of}
use Rattle.hub_index.specs.RootDistances.{root_distance, IsCover}
use Rattle.label_clean.specs.RawRows.{HasEachOnce, IsRawRow}

-- the row has the entries of another in any order
pub record HasEntriesOf (entries row : List Entry) : Type 0 where
  pub once : HasEachOnce row
  pub each : (e : Entry) → Contains row e ↔ Contains entries e

-- how many of n nodes, the highest-ranked ones, are hubs of so many others that their rows are put by distance
abbrev pub count_by_distance : ℕ → ℕ
count_by_distance n = n / 8

-- a row for each node, with at most one entry of each hub; the rows of the highest-ranked nodes are by rising distance
pub record AreTestedRows (at : List ℕ) (rows : List (List Entry)) : Type 0 where
  pub size : length rows ≡ length at
  pub rising : (v : ℕ) → 1 ≤ v → v ≤ length at → position_of at v < count_by_distance (length at) → IsNonDecreasingBy (λ e. e.dist) (label_row rows v)
  pub raw : (v : ℕ) → 1 ≤ v → v ≤ length at → IsRawRow (length at) (label_row rows v)

-- each distance of the table is one of the row, and no greater than any that the row has at its position
pub record HoldsLeast (table : List (Option ℕ)) (row : List Entry) : Type 0 where
  pub there : (p d : ℕ) → root_distance table p ≡ Some d → Contains row (record { pos = p; dist = d })
  pub least : (e : Entry) → Contains row e → e.pos < length table → (d : ℕ) × (root_distance table e.pos ≡ Some d) × (d ≤ e.dist)

-- an entry of the row covers one at the position p with the distance d, by way of the hubs in the table
abbrev pub HasCover : List (Option ℕ) → ℕ → ℕ → List Entry → Type 0
HasCover table p d row = (e : Entry) × Contains row e × IsCover table p d e

-- the row has an entry at the position of e, and their distances are together at most d
abbrev pub Meets : List Entry → Entry → ℕ → Type 0
Meets row e d = (b : ℕ) × Contains row (record { pos = e.pos; dist = b }) × (e.dist + b ≤ d)

-- an entry above p meets one of the row
abbrev pub IsCovering : List Entry → ℕ → ℕ → Entry → Type 0
IsCovering row p d e = (e.pos < p) × Meets row e d
