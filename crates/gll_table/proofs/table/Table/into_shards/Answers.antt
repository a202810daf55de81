use Rattle.std.proofs.Common.{ap, subst}
use Rattle.gll_table.specs.Tables.{AreShardsBelow, ShardedTable}
use Rattle.gll_table.proofs.table.Table.into_shards.Goals as goal

pub returns-clause-below : goal.returns-clause-below
returns-clause-below g c = subst (λ p. AreShardsBelow g.B.Build.edges g.B.Build.order g.B.Build.shift p c.self.inside.shards.items) (ap (λ (t : ShardedTable). t.first) c.self.view_is) c.self.invariant.2
