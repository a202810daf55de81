-- The labelling of a copy, under the old numbers, is that of what was copied.
use Rattle.std.proofs.Common.{◌≡◌, ◌∙◌, ℕ, ◌≤◌, List, length, subst, arith}
use Rattle.walk_laws.specs.declared.entry.Entry.{Entry}
use Rattle.walk_laws.specs.Graph.{WeightedGraph}
use Rattle.walk_laws.specs.Joined.{Joined}
use Rattle.walk_laws.specs.Labelling.{IsChl, label_row}
use Rattle.walk_laws.specs.Ranking.{IsRanking}
use Rattle.walk_laws.proofs.LightestEdges.{IsChl-lightest}
use Rattle.renumbering.specs.declared.working.WorkingCopy.{WorkingCopy}
use Rattle.renumbering.specs.Copies.{IsCopyOf}
use Rattle.renumbering.specs.Renumbered.{number_in, renumbered, renumbered_edges}
use Rattle.renumbering.proofs.NewNumbers.{comes_back}

-- it is the labelling of the lightest edges, and so of all
pub labelling_back : (graph : WeightedGraph) (at : List ℕ) (copy : WorkingCopy) (rows back : List (List Entry)) → IsCopyOf graph at copy → IsRanking copy.bfs_order → IsRanking at → length at ≡ graph.n → IsChl (Joined copy.graph.edges) copy.ranking rows → length back ≡ length copy.bfs_order → ((v : ℕ) → 1 ≤ v → v ≤ length copy.bfs_order → label_row back v ≡ label_row rows (number_in copy.bfs_order v)) → IsChl (Joined graph.edges) at back
labelling_back graph at copy rows back is bfs_order ranking nodes labelling size moved =
    let chl : IsChl (Joined (renumbered_edges copy.bfs_order is.kept)) (renumbered copy.bfs_order at) rows =
    subst (λ edges. IsChl (Joined edges) (renumbered copy.bfs_order at) rows) is.edges
    (subst (λ at. IsChl (Joined copy.graph.edges) at rows) is.ranking labelling) in
    (IsChl-lightest graph.edges is.kept is.lightest at back).1
    (comes_back graph.n is.kept copy.bfs_order at rows back is.known bfs_order is.size ranking nodes chl (size ∙ is.size) (λ v low high. moved v low (omega (arith, high, is.size))))
