use Rattle.std.proofs.Common.{◌-◌, arith}
use Rattle.hub_index.proofs.PartedRows.{within_parts, both_put}
use Rattle.hub_index.proofs.split_rows.SplitRows.put_row.Goals as goal

pub index_mut-requires : goal.index_mut-requires
index_mut-requires c =
    let within = within_parts c.self.inside.compact.items c.self.inside.full c.args.self.now c.args.v c.self.view_is c.self.invariant.0 c.requires.within in
    omega (arith, within, c.requires.node, c.self.inside.compact.ok.0, c.self.invariant.0)

pub put_row-requires-clause-within : goal.put_row-requires-clause-within
put_row-requires-clause-within c = within_parts c.self.inside.compact.items c.self.inside.full c.args.self.now c.args.v c.self.view_is c.self.invariant.0 c.requires.within

pub returns : goal.returns
returns c = both_put c.self.inside.compact.items c.self.inside.full c.args.self.now c.put_row.new.self (c.args.v - 1) c.args.compact c.args.full.items c.self.view_is c.put_row.ensures
