use Rattle.std.proofs.Common.{◌≡◌, ℕ, ◌<◌, ◌≤◌, [], get_or, length}
use Rattle.hub_index.specs.NodeEntries.{IsGatheredRow}
use Rattle.label_clean.proofs.RowItems.{items_of}
use Rattle.label_clean.proofs.hub_rows.sort_rows.Given as goal

-- the rows so far are sorted, and the others are as they were
abbrev pub invariant-loop-k : goal.invariant-loop-k
invariant-loop-k l = record {
  size : length l.rows ≡ length l.fn.rows;
  sorted : (k : ℕ) → k < l.k → IsGatheredRow (get_or (items_of l.fn.rows) k []) (get_or (items_of l.rows) k []);
  others : (k : ℕ) → l.k ≤ k → get_or (items_of l.rows) k [] ≡ get_or (items_of l.fn.rows) k [];
}
