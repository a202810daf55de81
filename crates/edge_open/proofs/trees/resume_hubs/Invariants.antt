use Rattle.std.proofs.Common.{◌≡◌, All, length}
use Rattle.walk_laws.specs.Joined.{Joined}
use Rattle.edge_open.specs.OpenArcs.{IsHubStart, AreOpenBut}
use Rattle.edge_open.proofs.trees.resume_hubs.Given as goal

-- all arcs are open but for the starts that are left
abbrev pub invariant-loop-p : goal.invariant-loop-p
invariant-loop-p l = record {
  work : l.work ≡ l.graph.n;
  may : All (IsHubStart (Joined l.graph.edges) l.ranking) l.left;
  arcs : AreOpenBut l.left (Joined l.graph.edges) (Joined l.graph.edges) l.ranking l.rows;
}

-- each tree leaves fewer
abbrev pub decreases-loop-p : goal.decreases-loop-p
decreases-loop-p l = length l.left
