use Rattle.std.proofs.Common.{sym, ap, subst}
use Rattle.gll_merge.specs.Merging.{IsMerge}
use Rattle.gll_merge.specs.Merging.{OneShard}
use Rattle.gll_merge.proofs.MergedShards.{merged_shard}
use Rattle.gll_merge.proofs.merge_task.MergeTask.merge.Goals as goal

pub invariant_of-result : goal.invariant_of-result
invariant_of-result g c =
    let edges = g.B.Build.edges in
    let at = g.B.Build.order in
    let shift = g.B.Build.shift in
    let next = c.self.inside.next in
    let number_is = ap (λ (s : OneShard). s.number) (sym c.shard.view_is) in
    let first_is = ap (λ (s : OneShard). s.first) (sym c.shard.view_is) in
    let task = subst (λ k. IsMerge g.B.Build.edges g.B.Build.order g.B.Build.shift k c.shard.inside.first c.self.inside.next c.self.inside.lists.items c.self.inside.hub_rows.value) number_is
    (subst (λ p. IsMerge g.B.Build.edges g.B.Build.order g.B.Build.shift c.self.inside.shard.number p c.self.inside.next c.self.inside.lists.items c.self.inside.hub_rows.value) first_is c.self.invariant) in
    merged_shard edges at shift c.shard.inside.number c.shard.inside.first next c.deref-2.result.now c.deref.result.now c.shard.inside.rows c.join.new.rows
    (subst (λ hubs. IsMerge g.B.Build.edges g.B.Build.order g.B.Build.shift c.shard.inside.number c.shard.inside.first c.self.inside.next c.deref-2.result.now hubs) (sym c.deref.ensures)
    (subst (λ lists. IsMerge g.B.Build.edges g.B.Build.order g.B.Build.shift c.shard.inside.number c.shard.inside.first c.self.inside.next lists c.self.inside.hub_rows.value) (sym c.deref-2.ensures.value) task))
    c.shard.invariant.1 c.join.ensures.size (c.in-Ok.ensures).rows
