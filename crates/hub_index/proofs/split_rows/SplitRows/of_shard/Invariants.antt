use Rattle.std.proofs.Common.{◌≡◌, ◌-◌, [], ◌++◌, length, replicate, take}
use Rattle.hub_index.specs.Shards.{shard_of, shard_size}
use Rattle.hub_index.proofs.split_rows.SplitRows.of_shard.Given as goal

-- so many rows are copied, and the others are empty
abbrev pub invariant-loop-k : goal.invariant-loop-k
invariant-loop-k l = l.rows ≡ take l.k (shard_of l.fn.dealt.shift l.fn.number l.fn.list) ++ replicate (shard_size l.fn.dealt.shift (length l.fn.list) l.fn.number - l.k) []
