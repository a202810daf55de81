use Rattle.std.proofs.Common.{◌≡◌, All, length, map, take}
use Rattle.label_clean.specs.RunLists.{HasItsRuns}
use Rattle.gll_table.proofs.partitioning.list_all_runs.Given as goal

-- the lists so far have their runs, and all have their entries
abbrev pub invariant-loop-k : goal.invariant-loop-k
invariant-loop-k l = record {
  size : length l.lists ≡ length l.fn.lists;
  entries : map (λ list. list.entries.items) l.lists ≡ map (λ list. list.entries.items) l.fn.lists;
  runs : All HasItsRuns (take l.k l.lists);
}
