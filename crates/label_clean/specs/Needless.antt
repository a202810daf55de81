-- Entries that a higher hub makes needless (Planting Trees, PVLDB 2019).
use Rattle.std.specs.Prelude.{◌≡◌, ◌↔◌, ℕ, ◌<◌, ◌≤◌, List, Some, Contains, map, slice_get}
use Rattle.std.specs.List.Sorted.{IsStrictlyIncreasing}
use Rattle.walk_laws.specs.declared.entry.Entry.{Entry}
use Rattle.walk_laws.specs.Labelling.{label_row}
use Rattle.walk_laws.specs.Meet.{HasSum}

-- both rows have an entry at a position above p, which is a smaller one, and their distances there are together at most d
pub record IsCovered (first second : List Entry) (p d : ℕ) : Type 0 where
  pub position : ℕ
  pub sum : ℕ
  pub above : position < p
  pub shared : HasSum first second position sum
  pub short : sum ≤ d

-- the entry of v's row is covered by the rows of its hub and of v
pub record IsNeedless (at : List ℕ) (rows : List (List Entry)) (v : ℕ) (e : Entry) : Type 0 where
  pub hub : ℕ
  pub hub_is : slice_get at e.pos ≡ Some hub
  pub covered : IsCovered (label_row rows hub) (label_row rows v) e.pos e.dist

-- the row holds exactly the entries of v that are not needless, by rising position
pub record IsSurvivingRow (at : List ℕ) (rows : List (List Entry)) (v : ℕ) (row : List Entry) : Type 0 where
  pub rising : IsStrictlyIncreasing (map (λ e. e.pos) row)
  pub each : (e : Entry) → Contains row e ↔ (Contains (label_row rows v) e × ¬ IsNeedless at rows v e)
