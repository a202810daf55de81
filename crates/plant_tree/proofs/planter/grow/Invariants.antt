use Rattle.std.proofs.Common.{◌≡◌, ℕ, ◌+◌, ◌*◌, ◌≤◌, Some}
use Rattle.std.specs.Prelude.{slice_get}
use Rattle.walk_laws.specs.Graph.{greatest_weight}
use Rattle.walk_laws.specs.Joined.{Joined}
use Rattle.plant_tree.specs.Planted.{NamesEachOnce}
use Rattle.plant_tree.specs.Wanted.{wanted}
use Rattle.plant_tree.proofs.TreeFacts.{IsTree}
use Rattle.plant_tree.proofs.TreeSize.{IsSized, unsettled}
use Rattle.plant_tree.proofs.PlantedExactly.{AreLabels}
use Rattle.plant_tree.proofs.planter.grow.Given as goal

-- The tree has a place for each node, its walks leave room for the nodes to come, and it is the tree of its root; the
-- queued nodes that carry the root are counted, and the settled ones are labelled.
abbrev pub invariant-loop-wanted : goal.invariant-loop-wanted
invariant-loop-wanted l = record {
  sized : IsSized l.graph.n (greatest_weight l.graph.edges) ((l.graph.n + 1) * greatest_weight l.graph.edges) l.frontier;
  tree : (h : ℕ) → slice_get l.ranking l.p ≡ Some h → IsTree (Joined l.graph.edges) (Joined l.graph.edges) l.ranking h l.frontier;
  count : l.wanted ≡ wanted l.p l.frontier;
  settled : l.settled + unsettled l.frontier ≤ l.graph.n + 1;
  labels : AreLabels l.p l.frontier l.planted.items;
  once : NamesEachOnce l.planted.items;
}

-- each round settles a node
abbrev pub decreases-loop-wanted : goal.decreases-loop-wanted
decreases-loop-wanted l = unsettled l.frontier
