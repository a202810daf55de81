use Rattle.std.proofs.Common.{sym, ap, subst}
use Rattle.label_clean.specs.Below.{IsChlBelow}
use Rattle.gll_table.specs.Tables.{AreShardsBelow, ShardedTable}
use Rattle.gll_table.proofs.ShardedTables.{IsChlBelow-sharded}
use Rattle.gll_table.proofs.table.Table.into_rows.Goals as goal

pub returns : goal.returns
returns g c =
    let edges = g.B.Build.edges in
    let at = g.B.Build.order in
    let first_is = ap (λ (t : ShardedTable). t.first) c.self.view_is in
    subst (λ p. IsChlBelow g.B.Build.edges g.B.Build.order p c.in_ok-rows.rows) first_is
    (subst (IsChlBelow g.B.Build.edges g.B.Build.order c.self.inside.first) (sym c.in_ok-rows.ensures)
    (IsChlBelow-sharded edges at c.self.inside.plan.shift c.self.inside.first c.self.inside.n c.self.inside.shards.items c.self.invariant.0
    (subst (λ s. AreShardsBelow g.B.Build.edges g.B.Build.order s c.self.inside.first c.self.inside.shards.items) (sym c.self.invariant.1) c.self.invariant.2)))
