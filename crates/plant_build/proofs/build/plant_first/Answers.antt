use Rattle.std.proofs.Common.{ℕ, ◌<◌, List, subst}
use Rattle.std.specs.Prelude.{IfOk}
use Rattle.walk_laws.specs.Graph.{WeightedGraph}
use Rattle.walk_laws.specs.Joined.{Joined}
use Rattle.walk_laws.specs.Labelling.{IsPartChl}
use Rattle.plant_build.proofs.build.plant_first.Goals as goal

pub returns : goal.returns
returns g c =
    let job = c.new-job.ensures in
    record { labelling = subst (λ (t : WeightedGraph × List ℕ). IfOk c.plant_roots.result (IsPartChl (Joined t.0.edges) t.1 (λ p. p < c.args.eta))) (λ j. (job.graph j, job.ranking j)) c.plant_roots.ensures.labelling }
