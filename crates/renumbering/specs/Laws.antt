-- The law of new numbers.
use Rattle.std.specs.Prelude.{◌≡◌, ℕ, ◌≤◌, List, length}
use Rattle.walk_laws.specs.declared.graph.Edge.{Edge}
use Rattle.walk_laws.specs.declared.entry.Entry.{Entry}
use Rattle.walk_laws.specs.Graph.{IsGraph}
use Rattle.walk_laws.specs.Joined.{Joined}
use Rattle.walk_laws.specs.Labelling.{IsChl, label_row}
use Rattle.walk_laws.specs.Ranking.{IsRanking}
use Rattle.renumbering.specs.Renumbered.{number_in, renumbered, renumbered_edges}

-- where rows are the labelling of a graph by the new numbers, each node's row is that which stands under its new number
abbrev pub LabellingsComeBack : Type 0
LabellingsComeBack = (n : ℕ) (edges : List Edge) (bfs_order at : List ℕ) (rows back : List (List Entry)) → IsGraph n edges
    → IsRanking bfs_order → length bfs_order ≡ n → IsRanking at → length at ≡ n
    → IsChl (Joined (renumbered_edges bfs_order edges)) (renumbered bfs_order at) rows
    → length back ≡ n → ((v : ℕ) → 1 ≤ v → v ≤ n → label_row back v ≡ label_row rows (number_in bfs_order v))
    → IsChl (Joined edges) at back
