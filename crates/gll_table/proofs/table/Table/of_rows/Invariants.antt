use Rattle.std.proofs.Common.{◌≡◌, ℕ, ◌<◌, ◌≤◌, length}
use Rattle.hub_index.specs.Shards.{shard_at, shard_of}
use Rattle.gll_table.proofs.table.Table.of_rows.Given as goal

-- so many shards of the rows are made
abbrev pub invariant-loop-number : goal.invariant-loop-number
invariant-loop-number g l = record {
  size : length l.shards.items ≡ l.number;
  up_to : l.number ≤ l.context.count;
  are : (k : ℕ) → k < l.number → shard_at l.shards.items k ≡ shard_of l.context.plan.shift k l.rows;
}
