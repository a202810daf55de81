use Rattle.std.proofs.Common.{sym, ◌∙◌}
use Rattle.gll_table.proofs.table.Table.of_shards.Goals as goal

pub invariant_of-result : goal.invariant_of-result
invariant_of-result g c = (c.n.ensures.value ∙ sym c.args.context.now.nodes, c.args.context.now.shards, c.requires)
