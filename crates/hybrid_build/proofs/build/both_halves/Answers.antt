use Rattle.std.proofs.Common.{ℕ, ◌<◌, List, subst}
use Rattle.walk_laws.specs.Graph.{WeightedGraph}
use Rattle.walk_laws.specs.Joined.{Joined}
use Rattle.walk_laws.specs.Labelling.{IsPartChl}
use Rattle.hybrid_build.proofs.build.both_halves.Goals as goal

pub grown_from-requires-clause-rows : goal.grown_from-requires-clause-rows
grown_from-requires-clause-rows g c κs within =
    let copied = c.new-copied.ensures in
    subst (λ (t : WeightedGraph × List ℕ). IsPartChl (Joined t.0.edges) t.1 (λ p. p < c.in_ok-planted.planted.roots) c.in_ok-planted.planted.rows) (λ j. (copied.graph j, copied.ranking j)) c.in_ok-planted.ensures.rows
