use Rattle.std.proofs.Common.{◌≡◌, ℕ, ◌≤◌, ◌<◌, length}
use Rattle.walk_laws.specs.Labelling.{label_row}
use Rattle.hub_index.specs.NodeEntries.{IsGatheredRow}
use Rattle.hub_index.proofs.RowItems.{items_of}
use Rattle.hub_index.proofs.row_list.RowList.sort.Given as goal

-- the rows so far are sorted, and the others are as they were
abbrev pub invariant-loop-k : goal.invariant-loop-k
invariant-loop-k l = record {
  size : length l.self-inside.rows.items ≡ length l.fn.self;
  sorted : (v : ℕ) → 1 ≤ v → v ≤ l.k → IsGatheredRow (label_row l.fn.self v) (label_row (items_of l.self-inside.rows.items) v);
  others : (v : ℕ) → l.k < v → label_row (items_of l.self-inside.rows.items) v ≡ label_row l.fn.self v;
}
