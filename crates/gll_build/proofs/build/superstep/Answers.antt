use Rattle.std.proofs.Common.{ℕ, List, sym, subst}
use Rattle.walk_laws.specs.Graph.{WeightedGraph}
use Rattle.label_clean.specs.Below.{IsChlBelow}
use Rattle.gll_build.proofs.build.superstep.Goals as goal

pub steps-requires-clause-global : goal.steps-requires-clause-global
steps-requires-clause-global g c κs within =
    let job = c.new-job.ensures in
    subst (λ (t : WeightedGraph × List ℕ). IsChlBelow t.0.edges t.1 c.args.first c.args.global) (λ j. (sym job.graph j, sym job.ranking j)) c.requires.global
