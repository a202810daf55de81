use Rattle.std.proofs.Common.{◌≡◌, ℕ, ◌≤◌, length}
use Rattle.walk_laws.specs.Labelling.{label_row}
use Rattle.label_clean.specs.RawRows.{both_rows}
use Rattle.label_clean.proofs.RowItems.{items_of}
use Rattle.label_clean.proofs.rows.together.Given as goal

-- the rows so far are those of both tables
abbrev pub invariant-loop-place : goal.invariant-loop-place
invariant-loop-place l = record {
  n : l.n ≡ length l.raw;
  size : length l.rows.items ≡ l.place;
  rows : (v : ℕ) → 1 ≤ v → v ≤ l.place → label_row (items_of l.rows.items) v ≡ both_rows l.global l.raw v;
}
