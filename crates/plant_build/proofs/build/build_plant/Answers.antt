use Rattle.std.proofs.Common.{ℕ, ◌<◌, List, ◌∙◌, sym, subst}
use Rattle.walk_laws.specs.Graph.{WeightedGraph}
use Rattle.walk_laws.specs.Joined.{Joined}
use Rattle.walk_laws.specs.Labelling.{IsPartChl}
use Rattle.plant_build.proofs.HeldParts.{IsChl-from_part}
use Rattle.plant_build.proofs.build.build_plant.Goals as goal

pub index-requires-clause-labelling : goal.index-requires-clause-labelling
index-requires-clause-labelling g c =
    let job = c.new-job.ensures in
    IsChl-from_part c.in_ok-copy.copy.graph.edges c.in_ok-copy.copy.ranking c.n-all.result c.in_ok-rows.rows (c.in_ok-copy.ensures.nodes ∙ sym c.n-all.ensures.value)
    (subst (λ (t : WeightedGraph × List ℕ). IsPartChl (Joined t.0.edges) t.1 (λ p. p < c.n-all.result) c.in_ok-rows.rows) (λ j. (job.graph j, job.ranking j)) c.in_ok-rows.ensures.labelling)
