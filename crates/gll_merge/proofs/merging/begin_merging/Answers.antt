use Rattle.std.proofs.Common.{◌≡◌, List, Contains, map, sym, subst, ◌∙◌}
use Rattle.std.proofs.lemmas.List.Elements.{All-contains}
use Rattle.walk_laws.specs.Ranking.{IsRanking}
use Rattle.walk_laws.specs.Laws.{WeighAtLeastOne}
use Rattle.walk_laws.proofs.JoinedEdges.{weights_of_edges}
use Rattle.label_clean.specs.declared.runs.RunList.{RunList}
use Rattle.label_clean.specs.HubRows.{AreGathered}
use Rattle.gll_table.specs.Partition.{ListsHubs}
use Rattle.gll_table.specs.Outputs.{IsOutput, Output, all_put}
use Rattle.gll_merge.specs.Merging.{AreTasksFrom, IsMerge, lists_at}
use Rattle.gll_table.specs.Tables.{AreShardsBelow}
use Rattle.gll_merge.proofs.PartsLong.{parts_long}
use Rattle.gll_merge.proofs.NewMerges.{IsMerge-new}
use Rattle.gll_merge.proofs.merging.begin_merging.Goals as goal

pub tasks_for-requires-clause-shards : goal.tasks_for-requires-clause-shards
tasks_for-requires-clause-shards g c = subst (λ p. AreShardsBelow g.B.Build.edges g.B.Build.order g.B.Build.shift p c.into_shards-shards.result.items) (sym c.first-first.ensures.value) c.into_shards-shards.ensures.below

pub tasks_for-requires-clause-count : goal.tasks_for-requires-clause-count
tasks_for-requires-clause-count g c = c.into_shards-shards.ensures.below.are.count ∙ sym c.args.context.now.count_is

pub tasks_for-requires-clause-long : goal.tasks_for-requires-clause-long
tasks_for-requires-clause-long g c = parts_long g.B.Build.edges g.B.Build.order g.B.Build.shift c.args.outputs.items c.in_ok-workspaces.parts.items c.requires.are c.in_ok-workspaces.ensures.parts

pub tasks_for-requires-clause-each : goal.tasks_for-requires-clause-each
tasks_for-requires-clause-each g c number there =
    let edges = g.B.Build.edges in
    let at = g.B.Build.order in
    let shift = g.B.Build.shift in
    let context = c.args.context.now in
    let outputs = c.args.outputs.items in
    let first = c.args.table.first in
    let next = c.args.next in
    let weights = subst WeighAtLeastOne context.edges (weights_of_edges context.graph.now.n context.graph.now.edges c.n-n.ensures.graph.edge) in
    let ranking = subst IsRanking context.order c.n-ranked.ensures.ranking in
    let are : (s : Output) → Contains c.args.outputs.items s → IsOutput g.B.Build.edges g.B.Build.order g.B.Build.shift s = λ s has. All-contains (IsOutput g.B.Build.edges g.B.Build.order g.B.Build.shift) c.args.outputs.items s c.requires.are has in
    let over : (s : Output) → Contains c.args.outputs.items s → s.first ≡ c.args.table.first = λ s has. All-contains (λ (s : Output). s.first ≡ c.args.table.first) c.args.outputs.items s c.requires.over has in
    let hubs = c.in_ok-hub_rows.ensures in
    let listed = subst (λ rs. ListsHubs g.B.Build.order c.args.next (all_put rs) c.in_ok-hub_rows.ensures.0) c.deref.ensures.value hubs.1 in
    subst (λ p. IsMerge g.B.Build.edges g.B.Build.order g.B.Build.shift number p c.args.next (lists_at (map (λ d. d.items) c.in_ok-workspaces.parts.items) number) c.in_ok-hub_rows.hub_rows.value) (sym c.first-first.ensures.value)
    (subst (λ (lists : List (List RunList)). IsMerge g.B.Build.edges g.B.Build.order g.B.Build.shift number c.args.table.first c.args.next (lists_at lists number) c.in_ok-hub_rows.hub_rows.value) (sym c.in_ok-workspaces.ensures.parts)
    (IsMerge-new edges at shift number there weights ranking first next c.requires.up c.requires.within outputs are over c.requires.roots hubs.0 listed c.in_ok-hub_rows.hub_rows.value
    (subst (λ p. AreGathered p c.args.next c.in_ok-hub_rows.ensures.0 c.in_ok-hub_rows.hub_rows.value) c.first-first.ensures.value hubs.2)))

pub returns-clause-tasks : goal.returns-clause-tasks
returns-clause-tasks g c =
    let first_is = c.first-first.ensures.value in
    let made = c.in_ok-tasks.ensures in
    subst (λ p. AreTasksFrom 0 p c.args.next c.args.table.shards (map (λ (s : Output). s.parts) c.args.outputs.items) c.in_ok-tasks.tasks.items) first_is
    (subst (λ shards. AreTasksFrom 0 c.first-first.result c.args.next shards (map (λ (s : Output). s.parts) c.args.outputs.items) c.in_ok-tasks.tasks.items) c.into_shards-shards.ensures.same
    (subst (λ parts. AreTasksFrom 0 c.first-first.result c.args.next c.into_shards-shards.result.items parts c.in_ok-tasks.tasks.items) c.in_ok-workspaces.ensures.parts made))
