-- Rows by rising position.
use Rattle.std.specs.Prelude.{◌↔◌, List, Contains, map}
use Rattle.std.specs.List.Sorted.{IsStrictlyIncreasing}
use Rattle.walk_laws.specs.declared.entry.Entry.{Entry}

-- the row has the entries of another by rising position
pub record IsSortedRow (entries row : List Entry) : Type 0 where
  pub rising : IsStrictlyIncreasing (map (λ e. e.pos) row)
  pub each : (e : Entry) → Contains row e ↔ Contains entries e
