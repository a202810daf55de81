use Rattle.std.proofs.Common.{◌≡◌, ℕ, ◌<◌, ◌≤◌, [], All, get_or, vec_len}
use Rattle.label_clean.specs.declared.runs.RunList.{RunList}
use Rattle.gll_table.proofs.partitioning.make_empty.Given as goal

-- the lists so far are empty
abbrev pub invariant-loop-list : goal.invariant-loop-list
invariant-loop-list l = (k : ℕ) (d : RunList) → k < l.list-index → (get_or l.list-items k d).entries.items ≡ []

-- so many lists are there, all empty
abbrev pub invariant-loop : goal.invariant-loop
invariant-loop l = record {
  size : vec_len l.lists ≡ l.counter;
  within : l.counter ≤ l.count;
  empty : All (λ list. list.entries.items ≡ []) l.lists.items;
}
