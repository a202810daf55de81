-- What a build works on, and what its rows say of the graph and the ranking that it was made of.
use Rattle.std.specs.Prelude.{◌≡◌, ℕ, List, length}
use Rattle.walk_laws.specs.declared.graph.Edge.{Edge}
use Rattle.walk_laws.specs.Graph.{WeightedGraph, IsGraph}
use Rattle.walk_laws.specs.Lightest.{AreLightest}
use Rattle.renumbering.specs.declared.working.WorkingCopy.{WorkingCopy}
use Rattle.renumbering.specs.Renumbered.{renumbered, renumbered_edges}

-- of the edges between two nodes the lightest, and each node by its new number, in the graph and in the ranking
pub record IsCopyOf (graph : WeightedGraph) (at : List ℕ) (copy : WorkingCopy) : Type 0 where
  pub kept : List Edge
  pub lightest : AreLightest graph.edges kept
  pub known : IsGraph graph.n kept
  pub size : length copy.bfs_order ≡ graph.n
  pub nodes : copy.graph.n ≡ graph.n
  pub edges : copy.graph.edges ≡ renumbered_edges copy.bfs_order kept
  pub ranking : copy.ranking ≡ renumbered copy.bfs_order at
