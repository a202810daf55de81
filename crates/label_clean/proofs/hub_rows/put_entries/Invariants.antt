use Rattle.std.proofs.Common.{◌≡◌, ℕ, ◌+◌, ◌<◌, [], ◌++◌, get_or, length, take}
use Rattle.label_clean.specs.HubRows.{entries_of_hub}
use Rattle.label_clean.proofs.RowItems.{items_of}
use Rattle.label_clean.proofs.hub_rows.put_entries.Given as goal

-- the entries so far stand in their rows
abbrev pub invariant-loop-entry : goal.invariant-loop-entry
invariant-loop-entry l = record {
  size : length l.rows ≡ length l.fn.rows;
  rows : (k : ℕ) → k < l.count → get_or (items_of l.rows) k [] ≡ get_or (items_of l.fn.rows) k [] ++ entries_of_hub (take l.entry-index l.entries) (l.first + k);
}
