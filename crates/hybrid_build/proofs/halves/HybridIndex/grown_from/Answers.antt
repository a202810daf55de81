use Rattle.std.proofs.Common.{ℕ, ◌<◌, List, sym, subst}
use Rattle.walk_laws.specs.Graph.{WeightedGraph}
use Rattle.walk_laws.specs.Joined.{Joined}
use Rattle.walk_laws.specs.Labelling.{IsChl, IsPartChl}
use Rattle.hybrid_build.specs.Halves.{Planted}
use Rattle.hybrid_build.proofs.halves.HybridIndex.grown_from.Goals as goal

pub grow_roots-requires-clause-global : goal.grow_roots-requires-clause-global
grow_roots-requires-clause-global g c κs within =
    let copied = c.new-copied.ensures in
    subst (λ (t : WeightedGraph × List ℕ × Planted). IsPartChl (Joined t.0.edges) t.1 (λ q. q < t.2.roots) t.2.rows) (λ j. (sym copied.graph j, sym copied.ranking j, sym c.planted.view_is j)) c.requires.rows

pub split_index-requires-clause-labelling : goal.split_index-requires-clause-labelling
split_index-requires-clause-labelling g c =
    let copied = c.new-copied.ensures in
    subst (λ (t : WeightedGraph × List ℕ). IsChl (Joined t.0.edges) t.1 c.in_ok-all.all) (λ j. (copied.graph j, copied.ranking j)) c.in_ok-all.ensures
