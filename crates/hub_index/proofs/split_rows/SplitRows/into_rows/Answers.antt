use Rattle.std.proofs.Common.{length, map, ap, ◌∙◌, arith, length-append}
use Rattle.std.proofs.lemmas.List.{length-map}
use Rattle.std.specs.Vec.Iter.{into_iter_items}
use Rattle.hub_index.specs.CompactRows.{rows_of_parts}
use Rattle.hub_index.proofs.PartedRows.{compact_lists, length-rows_of_parts}
use Rattle.hub_index.proofs.split_rows.SplitRows.into_rows.Goals as goal

-- so far there are no more rows than nodes
pub from_rows-requires : goal.from_rows-requires
from_rows-requires c =
    let rows = c.loop-compact.rows in
    let to_come = rows_of_parts (compact_lists c.loop-compact.compact-iterator.rest.items) (map (λ row. row.items) (into_iter_items c.loop-compact.full)) in
    let compact = c.self.inside.compact.items in
    omega (
      arith,
      rows.ok.0,
      length-map rows.items (λ row. row.items),
      length-append (map (λ row. row.items) rows.items) to_come,
      ap length c.loop-compact.invariant.whole,
      ap length c.self.view_is,
      length-rows_of_parts (compact_lists compact) c.self.inside.full (length-map compact (λ row. row.items) ∙ c.self.invariant.0),
      c.self.invariant.1,
    )
