use Rattle.std.proofs.Common.{◌-◌, ◌<◌, length, set, get_or, [], ◌∷◌, ◌++◌, ap, ◌∙◌, arith}
use Rattle.std.proofs.lemmas.List.{length-map}
use Rattle.std.proofs.lemmas.Result.{err_from_is_err_and}
use Rattle.hub_index.proofs.RowItems.{items_of-gain, items_of-same}
use Rattle.hub_index.proofs.row_list.RowList.push.Goals as goal

-- src/row_list.rt:62:9
pub returns-in_err-push-clause-err : goal.returns-in_err-push-clause-err
returns-in_err-push-clause-err c =
    let p = err_from_is_err_and c.from_residual.result c.from_residual.ensures.1 in
    rw p.1 (items_of-same c.self.inside.rows.items (c.args.v - 1) c.index_mut.result.now c.push.new.self c.index_mut.ensures.value c.in_err-push.ensures.items ∙ c.self.view_is)

-- src/row_list.rt:56:5
pub returns-clause-ok : goal.returns-clause-ok
returns-clause-ok c =
    let rows = c.self.inside.rows.items in
    let within : c.args.v - 1 < length rows = omega (arith, length-map rows (λ row. row.items), ap length c.self.view_is, c.requires.node, c.requires.within) in
    items_of-gain rows (c.args.v - 1) c.index_mut.result.now c.push.new.self c.args.entry within c.index_mut.ensures.value c.in_ok-push.ensures.items
    ∙ ap (λ rs. set rs (c.args.v - 1) (get_or rs (c.args.v - 1) [] ++ c.args.entry ∷ [])) c.self.view_is
