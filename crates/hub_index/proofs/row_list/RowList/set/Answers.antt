use Rattle.std.proofs.Common.{◌-◌, ◌<◌, length, set, get_or, [], ap, ◌∙◌, arith}
use Rattle.std.specs.Vec.{with_item}
use Rattle.std.proofs.lemmas.List.{length-map, map-set}
use Rattle.hub_index.proofs.RowItems.{items_of, items_of-at}
use Rattle.hub_index.proofs.row_list.RowList.set.Goals as goal

pub returns : goal.returns
returns c =
    let rows = c.self.inside.rows.items in
    let within : c.args.v - 1 < length rows = omega (arith, length-map rows (λ row. row.items), ap length c.self.view_is, c.requires.node, c.requires.within) in
    map-set (λ r. r.items) rows (c.args.v - 1) (with_item c.index_mut.result.now c.args.place c.args.entry)
    ∙ ap (λ row. set (items_of rows) (c.args.v - 1) (set row c.args.place c.args.entry)) (items_of-at rows (c.args.v - 1) c.index_mut.result.now within c.index_mut.ensures.value)
    ∙ ap (λ rs. set rs (c.args.v - 1) (set (get_or rs (c.args.v - 1) []) c.args.place c.args.entry)) c.self.view_is
