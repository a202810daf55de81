use Rattle.std.proofs.Common.{◌≡◌, ◌≤◌, length, map, take, vec_len}
use Rattle.gll_merge.specs.Merging.{AreTasksFrom}
use Rattle.gll_merge.proofs.merging.tasks_for.Given as goal

-- the first shards are left, and of the lists those for these; the others have their tasks
abbrev pub invariant-loop-rows : goal.invariant-loop-rows
invariant-loop-rows g l = record {
  shards : l.shards.items ≡ take (length l.shards.items) l.fn.shards.items;
  within : length l.shards.items ≤ length l.fn.shards.items;
  parts : map (λ d. d.items) l.parts.items ≡ map (take (length l.shards.items)) (map (λ d. d.items) l.fn.parts.items);
  tasks : AreTasksFrom (length l.shards.items) l.first l.next l.fn.shards.items (map (λ d. d.items) l.fn.parts.items) l.tasks.items;
}

abbrev pub decreases-loop-rows : goal.decreases-loop-rows
decreases-loop-rows g l = vec_len l.shards
