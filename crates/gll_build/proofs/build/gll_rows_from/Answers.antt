use Rattle.std.proofs.Common.{ℕ, List, sym, subst}
use Rattle.std.specs.Prelude.{IfOk}
use Rattle.walk_laws.specs.Graph.{WeightedGraph}
use Rattle.walk_laws.specs.Joined.{Joined}
use Rattle.walk_laws.specs.Labelling.{IsChl}
use Rattle.label_clean.specs.Below.{IsChlBelow}
use Rattle.gll_build.proofs.build.gll_rows_from.Goals as goal

pub grow_roots-requires-clause-global : goal.grow_roots-requires-clause-global
grow_roots-requires-clause-global g c κs within =
    let job = c.new-job.ensures in
    subst (λ (t : WeightedGraph × List ℕ). IsChlBelow t.0.edges t.1 c.args.first c.args.global) (λ j. (sym job.graph j, sym job.ranking j)) c.requires.global

pub returns : goal.returns
returns g c =
    let job = c.new-job.ensures in
    subst (λ (t : WeightedGraph × List ℕ). IfOk c.grow_roots.result (IsChl (Joined t.0.edges) t.1)) (λ j. (job.graph j, job.ranking j)) c.grow_roots.ensures
