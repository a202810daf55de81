use Rattle.std.proofs.Common.{◌≡◌, ℕ, ◌+◌, ◌<◌, ◌≤◌, [], get_or, take, vec_len}
use Rattle.label_clean.specs.HubRows.{all_hub_entries, entries_of_hub}
use Rattle.label_clean.proofs.RowItems.{items_of}
use Rattle.label_clean.proofs.hub_rows.gather_rows.Given as goal

-- the entries of the lists so far stand in their rows
abbrev pub invariant-loop-list : goal.invariant-loop-list
invariant-loop-list l = record {
  more : vec_len l.fn.rows ≤ vec_len l.rows;
  enough : l.count ≤ vec_len l.rows;
  rows : (k : ℕ) → k < l.count → get_or (items_of l.rows.items) k [] ≡ entries_of_hub (all_hub_entries (take l.list-index l.lists)) (l.first + k);
}
