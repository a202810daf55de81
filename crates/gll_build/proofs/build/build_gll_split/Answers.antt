use Rattle.std.proofs.Common.{ℕ, List, ◌∙◌, sym, subst}
use Rattle.walk_laws.specs.Graph.{WeightedGraph}
use Rattle.walk_laws.specs.Joined.{Joined}
use Rattle.walk_laws.specs.Labelling.{IsChl}
use Rattle.label_clean.specs.Below.{IsChlBelow}
use Rattle.gll_build.proofs.EmptyTables.{IsChlBelow-none}
use Rattle.gll_build.proofs.build.build_gll_split.Goals as goal

pub grow_roots-requires-clause-global : goal.grow_roots-requires-clause-global
grow_roots-requires-clause-global g c κs within =
    let job = c.new-job.ensures in
    subst (λ (t : WeightedGraph × List ℕ). IsChlBelow t.0.edges t.1 0 c.in_ok-none.none) (λ j. (sym job.graph j, sym job.ranking j))
    (subst (IsChlBelow c.in_ok-copy.copy.graph.edges c.in_ok-copy.copy.ranking 0) (sym c.in_ok-none.ensures)
    (IsChlBelow-none c.in_ok-copy.copy.graph.edges c.in_ok-copy.copy.ranking c.n.result (c.n.ensures.value ∙ sym c.in_ok-copy.ensures.nodes)))

pub split_index-requires-clause-labelling : goal.split_index-requires-clause-labelling
split_index-requires-clause-labelling g c =
    let job = c.new-job.ensures in
    subst (λ (t : WeightedGraph × List ℕ). IsChl (Joined t.0.edges) t.1 c.in_ok-rows.rows) (λ j. (job.graph j, job.ranking j)) c.in_ok-rows.ensures
