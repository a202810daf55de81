use Rattle.std.proofs.Common.{◌≡◌, All, None, take}
use Rattle.gll_table.proofs.tasks.take_from.Given as goal

-- the tasks are as they were
abbrev pub invariant-loop-k : goal.invariant-loop-k
invariant-loop-k g l = l.tasks.items ≡ l.fn.tasks.items

-- the tasks are as they were, and none stands before k
abbrev pub invariant-loop-k-2 : goal.invariant-loop-k-2
invariant-loop-k-2 g l = record {
  same : l.tasks.items ≡ l.fn.tasks.items;
  none : All (λ place. place ≡ None) (take l.k l.fn.tasks.items);
}
