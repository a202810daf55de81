use Rattle.std.proofs.Common.{◌∙◌, sym, subst}
use Rattle.label_clean.specs.Below.{IsChlBelow}
use Rattle.gll_build.proofs.EmptyTables.{IsChlBelow-none}
use Rattle.build_tests.proofs.tests.supersteps.first_step.Goals as goal

pub step-requires-clause-global : goal.step-requires-clause-global
step-requires-clause-global g c κs within =
    subst (IsChlBelow c.args.graph.now.edges c.args.ranking.now 0) (sym c.in_ok-none.ensures)
    (IsChlBelow-none c.args.graph.now.edges c.args.ranking.now c.n-n.result (c.n-n.ensures.value ∙ sym c.requires.nodes))
