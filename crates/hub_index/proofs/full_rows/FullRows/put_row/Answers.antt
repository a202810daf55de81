use Rattle.std.proofs.Common.{◌≡◌, ◌-◌, ◌<◌, [], length, get_or, sym, ap, ◌∙◌, arith, rules}
use Rattle.std.proofs.lemmas.List.{nil_from_length}
use Rattle.hub_index.proofs.RowItems.{empty_put}
use Rattle.hub_index.proofs.full_rows.FullRows.put_row.Goals as goal

pub returns-else-not-is_empty : goal.returns-else-not-is_empty
returns-else-not-is_empty c =
    let place = c.args.v - 1 in
    let within : place < length c.self.inside.rows = omega (arith, c.requires.node, c.requires.within, ap length c.self.view_is) in
    let none : c.args.row.items ≡ [] = nil_from_length c.args.row.items (search rules) in
    empty_put c.args.self.now place c.args.row.items none (ap (λ rows. get_or rows place []) (sym c.self.view_is) ∙ c.self.invariant c.if-self.false place [] within)
