use Rattle.std.proofs.Common.{◌≡◌, ◌≢◌, ℕ, ◌+◌, ◌≤◌, map, length, drop}
use Rattle.std.specs.Vec.Iter.{into_iter_items}
use Rattle.walk_laws.specs.Labelling.{label_row}
use Rattle.hub_index.specs.CompactRows.{rows_of_parts}
use Rattle.hub_index.specs.Shards.{node_at, shard_number}
use Rattle.hub_index.proofs.PartedRows.{compact_lists}
use Rattle.hub_index.proofs.split_rows.SplitRows.take_shard.Given as goal

-- so many rows of the shard were taken, the others are to come, and the rows of other shards are as before
abbrev pub invariant-loop-compact : goal.invariant-loop-compact
invariant-loop-compact l = record {
  same : length l.compact-iterator.rest.items ≡ length (into_iter_items l.full);
  left : rows_of_parts (compact_lists l.compact-iterator.rest.items) (map (λ row. row.items) (into_iter_items l.full)) ≡ drop l.place l.fn.shard;
  count : l.place + length l.compact-iterator.rest.items ≡ length l.fn.shard;
  size : length l.self ≡ length l.fn.self;
  taken : (place : ℕ) → 1 ≤ place → place ≤ l.place → label_row l.self (node_at l.fn.dealt.shift l.fn.number place) ≡ label_row l.fn.shard place;
  others : (v : ℕ) → 1 ≤ v → shard_number l.fn.dealt.shift v ≢ l.fn.number → label_row l.self v ≡ label_row l.fn.self v;
}
