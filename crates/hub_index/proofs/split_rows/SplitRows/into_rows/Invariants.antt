use Rattle.std.proofs.Common.{◌≡◌, ◌++◌, map, length}
use Rattle.std.specs.Vec.Iter.{into_iter_items}
use Rattle.hub_index.specs.CompactRows.{rows_of_parts}
use Rattle.hub_index.proofs.PartedRows.{compact_lists}
use Rattle.hub_index.proofs.split_rows.SplitRows.into_rows.Given as goal

-- with the rows to come they are all rows
abbrev pub invariant-loop-compact : goal.invariant-loop-compact
invariant-loop-compact l = record {
  size : length l.compact-iterator.rest.items ≡ length (into_iter_items l.full);
  whole : map (λ row. row.items) l.rows.items ++ rows_of_parts (compact_lists l.compact-iterator.rest.items) (map (λ row. row.items) (into_iter_items l.full)) ≡ l.fn.self;
}
