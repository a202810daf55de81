-- Rows as workers leave them: their entries stand in any order.
use Rattle.std.specs.Prelude.{ℕ, ◌<◌, ◌++◌, List, All, map, nat_eq}
use Rattle.std.specs.List.{IsDistinct}
use Rattle.walk_laws.specs.declared.entry.Entry.{Entry}
use Rattle.walk_laws.specs.Labelling.{label_row}

-- no two entries have one position
abbrev pub HasEachOnce : List Entry → Type 0
HasEachOnce row = IsDistinct nat_eq (map (λ e. e.pos) row)

-- each position is below n, and no two entries have one
pub record IsRawRow (n : ℕ) (row : List Entry) : Type 0 where
  pub within : All (λ e. e.pos < n) row
  pub once : HasEachOnce row

-- the row of the node v in two tables together
abbrev pub both_rows : List (List Entry) → List (List Entry) → ℕ → List Entry
both_rows global raw v = label_row global v ++ label_row raw v
