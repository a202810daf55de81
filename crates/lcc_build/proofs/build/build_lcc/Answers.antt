use Rattle.std.proofs.Common.{ℕ, List, length, subst}
use Rattle.walk_laws.specs.Graph.{WeightedGraph}
use Rattle.label_clean.specs.Below.{IsChlBelow}
use Rattle.lcc_build.proofs.build.build_lcc.Goals as goal

pub index-requires-clause-labelling : goal.index-requires-clause-labelling
index-requires-clause-labelling g c =
    let job = c.new-job.ensures in
    (c.the_whole_is_the_labelling.ensures c.in_ok-copy.copy.graph.edges c.in_ok-copy.copy.ranking c.in_ok-rows.rows).0
    (subst (λ (t : WeightedGraph × List ℕ). IsChlBelow t.0.edges t.1 (length t.1) c.in_ok-rows.rows) (λ j. (job.graph j, job.ranking j)) c.in_ok-rows.ensures)
