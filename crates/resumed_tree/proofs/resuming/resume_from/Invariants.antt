use Rattle.std.proofs.Common.{◌≡◌, ℕ, ◌+◌, ◌*◌, ◌^◌, length, Some}
use Rattle.std.specs.Prelude.{slice_get}
use Rattle.walk_laws.specs.Graph.{greatest_weight}
use Rattle.walk_laws.specs.Joined.{Joined}
use Rattle.pruned_tree.proofs.TreeCounts.{IsBounded, unsettled}
use Rattle.resumed_tree.proofs.KeptRows.{AreKept}
use Rattle.resumed_tree.proofs.Searches.{IsSearch}
use Rattle.resumed_tree.proofs.SpreadEntries.{HasSpread}
use Rattle.resumed_tree.proofs.resuming.resume_from.Given as goal

-- The tree has a place for each node, and its walks leave room for the nodes to come; the search has come from the starts; the
-- rows are kept but for entries of the root, and its canonical entries have spread as far as it has come.
abbrev pub invariant-loop-v : goal.invariant-loop-v
invariant-loop-v l = record {
  size : length l.frontier ≡ l.graph.n + 1;
  bounded : IsBounded (greatest_weight l.graph.edges) (2 ^ 94 + (l.graph.n + 1) * greatest_weight l.graph.edges) l.frontier;
  search : (h : ℕ) → slice_get l.ranking l.p ≡ Some h → IsSearch (Joined l.graph.edges) l.ranking h l.p l.starts l.frontier;
  kept : (h : ℕ) → slice_get l.ranking l.p ≡ Some h → AreKept (Joined l.graph.edges) l.ranking h l.p l.initial.rows l.rows;
  spread : (h : ℕ) → slice_get l.ranking l.p ≡ Some h → HasSpread (Joined l.graph.edges) l.ranking h l.p l.initial.rows l.rows l.frontier;
}

-- each round settles a node
abbrev pub decreases-loop-v : goal.decreases-loop-v
decreases-loop-v l = unsettled l.frontier
