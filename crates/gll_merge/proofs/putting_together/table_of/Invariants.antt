use Rattle.std.proofs.Common.{◌≡◌, ℕ, ◌+◌, ◌<◌, List, true, get_or, length}
use Rattle.std.specs.Prelude.{None, Some}
use Rattle.walk_laws.specs.declared.entry.Entry.{Entry}
use Rattle.hub_index.specs.Shards.{shard_at}
use Rattle.gll_table.specs.Tables.{IsShardBelow}
use Rattle.gll_merge.specs.Merging.{are_filled}
use Rattle.gll_merge.proofs.putting_together.table_of.Given as goal

-- the shards so far are up to the position, and so are those to come
abbrev pub invariant-loop-place : goal.invariant-loop-place
invariant-loop-place g l = record {
  count : length l.shards.items + length l.place-iterator.rest.items ≡ length l.fn.places.items;
  filled : are_filled l.place-iterator.rest.items ≡ true;
  to_come : (k : ℕ) (rows : List (List Entry)) → k < length l.place-iterator.rest.items → get_or l.place-iterator.rest.items k None ≡ Some rows → IsShardBelow g.B.Build.edges g.B.Build.order g.B.Build.shift l.next (length l.shards.items + k) rows;
  below : (k : ℕ) → k < length l.shards.items → IsShardBelow g.B.Build.edges g.B.Build.order g.B.Build.shift l.next k (shard_at l.shards.items k);
}
