use Rattle.std.proofs.Common.{◌≡◌, ℕ, ◌≤◌, length, take}
use Rattle.walk_laws.specs.Labelling.{label_row}
use Rattle.hub_index.specs.Shards.{shard_number, sharded_row}
use Rattle.hub_index.specs.Views.{IsNode}
use Rattle.hub_index.proofs.split_rows.SplitRows.of_shards.Given as goal

-- the rows of the last shards were taken, and the first ones are to come
abbrev pub invariant-loop-shard : goal.invariant-loop-shard
invariant-loop-shard l = record {
  left : l.shards.items ≡ take (length l.shards.items) l.fn.shards.items;
  few : length l.shards.items ≤ length l.fn.shards.items;
  size : length l.rows ≡ l.fn.n;
  taken : (v : ℕ) → IsNode l.fn.n v → length l.shards.items ≤ shard_number l.fn.dealt.shift v → label_row l.rows v ≡ sharded_row l.fn.dealt.shift l.fn.shards.items v;
}

abbrev pub decreases-loop-shard : goal.decreases-loop-shard
decreases-loop-shard l = length l.shards.items
