use Rattle.std.proofs.Common.{subst}
use Rattle.std.proofs.lemmas.List.{take_all}
use Rattle.walk_laws.specs.Ranking.{IsRanking}
use Rattle.gll_table.specs.Partition.{ListsHubs}
use Rattle.gll_table.specs.Outputs.{all_put}
use Rattle.gll_table.proofs.OutputHubs.{ListsHubs-more}
use Rattle.gll_table.proofs.outputs.hubs_below.Goals as goal

pub add_hubs-requires : goal.add_hubs-requires
add_hubs-requires g c = subst IsRanking c.args.context.now.order c.n-ranked.ensures.ranking

pub loop-output-preserved : goal.loop-output-preserved
loop-output-preserved g c =
    let added = c.in_ok-add_hubs.ensures in
    ListsHubs-more g.B.Build.order c.args.next c.args.outputs.now c.loop-output.output-index c.output-item.result c.loop-output.hubs.items added.0 c.add_hubs.new.hubs.items c.loop-output-test.true c.output-item.is c.loop-output.invariant added.2 added.1

pub returns : goal.returns
returns g c = subst (λ outputs. ListsHubs g.B.Build.order c.args.next (all_put outputs) c.loop-output.hubs.items) (take_all c.loop-output.output-index c.args.outputs.now c.loop-output-test.false) c.loop-output.invariant
