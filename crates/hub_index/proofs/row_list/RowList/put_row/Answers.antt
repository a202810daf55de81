use Rattle.std.proofs.Common.{◌-◌, set, ap, ◌∙◌}
use Rattle.std.proofs.lemmas.List.{map-set}
use Rattle.hub_index.proofs.row_list.RowList.put_row.Goals as goal

pub returns : goal.returns
returns c =
    map-set (λ r. r.items) c.self.inside.rows.items (c.args.v - 1) c.args.row
    ∙ ap (λ rows. set rows (c.args.v - 1) c.args.row.items) c.self.view_is
