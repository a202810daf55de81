use Rattle.std.proofs.Common.{refl}
use Rattle.walk_laws.specs.Labelling.{label_row}
use Rattle.lcc_build.proofs.InOrder.{IsRowBelow-grown}
use Rattle.lcc_build.proofs.in_order.tree_in_order.Goals as goal

pub returns-clause-rows : goal.returns-clause-rows
returns-clause-rows g c = λ v node.
    IsRowBelow-grown c.args.job.now.graph.now.n c.args.job.now.graph.now.edges c.args.job.now.ranking.now c.requires.graph c.requires.ranking c.args.job.now.nodes c.args.p (label_row c.args.view.now.rows) c.requires.before (label_row c.grow.new.view.rows) _ refl c.in_ok-puts.ensures.grown v node
