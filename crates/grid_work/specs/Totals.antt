-- What the rows of a labelling come to.
use Rattle.std.specs.Prelude.{ℕ, List, length}
use Rattle.std.specs.List.{sum_by}
use Rattle.walk_laws.specs.declared.entry.Entry.{Entry}
use Rattle.grid_work.specs.declared.totals.Totals.{Totals}

-- how many entries they have
abbrev pub entry_count : List (List Entry) → ℕ
entry_count rows = sum_by length rows

-- the sum of the distances of a row, and of all rows
abbrev pub row_distances : List Entry → ℕ
row_distances row = sum_by (λ e. e.dist) row

abbrev pub distance_sum : List (List Entry) → ℕ
distance_sum rows = sum_by row_distances rows

-- both
abbrev pub totals_of : List (List Entry) → Totals
totals_of rows = record { entries = entry_count rows; distances = distance_sum rows }
