use Rattle.std.proofs.Common.{length, sym, ap, subst, ◌∙◌}
use Rattle.hub_index.specs.Shards.{sharded_rows}
use Rattle.label_clean.specs.Below.{IsChlBelow}
use Rattle.gll_table.specs.Tables.{AreShardsBelow, ShardedTable}
use Rattle.gll_table.proofs.ShardedTables.{IsChlBelow-sharded}
use Rattle.gll_table.proofs.table.Table.rows.Goals as goal

pub returns-clause-value : goal.returns-clause-value
returns-clause-value g c =
    c.of.ensures
    ∙ ap (sharded_rows c.self.inside.plan.shift c.self.inside.n) c.as_slice.ensures.value
    ∙ ap (λ n. sharded_rows c.self.inside.plan.shift n c.self.inside.shards.items) c.self.invariant.0
    ∙ ap (λ shift. sharded_rows shift (length g.B.Build.order) c.self.inside.shards.items) c.self.invariant.1
    ∙ ap (λ (t : ShardedTable). sharded_rows g.B.Build.shift (length g.B.Build.order) t.shards) c.self.view_is

pub returns-clause-below : goal.returns-clause-below
returns-clause-below g c =
    let edges = g.B.Build.edges in
    let at = g.B.Build.order in
    let plan = c.self.inside.plan in
    let n = c.self.inside.n in
    let shards = c.self.inside.shards.items in
    let first_is = ap (λ (t : ShardedTable). t.first) c.self.view_is in
    subst (λ p. IsChlBelow g.B.Build.edges g.B.Build.order p c.of.result) first_is
    (subst (IsChlBelow g.B.Build.edges g.B.Build.order c.self.inside.first) (sym (c.of.ensures ∙ ap (sharded_rows c.self.inside.plan.shift c.self.inside.n) c.as_slice.ensures.value))
    (IsChlBelow-sharded edges at plan.shift c.self.inside.first n shards c.self.invariant.0
    (subst (λ s. AreShardsBelow g.B.Build.edges g.B.Build.order s c.self.inside.first c.self.inside.shards.items) (sym c.self.invariant.1) c.self.invariant.2)))
