use Rattle.std.proofs.Common.{ℕ, All, take}
use Rattle.walk_laws.specs.Joined.{Joined}
use Rattle.edge_open.specs.OpenArcs.{IsHubStart, IsOpenBut}
use Rattle.edge_open.proofs.starts.hub_starts.Given as goal

-- the arcs of the edges so far are open but for the starts so far
abbrev pub invariant-loop-edge : goal.invariant-loop-edge
invariant-loop-edge l = record {
  may : All (IsHubStart (Joined l.graph.edges) l.ranking) l.starts.items;
  arcs : (x y w : ℕ) → Joined (take l.edge-index l.edges) x y w → IsOpenBut l.starts.items (Joined l.graph.edges) l.ranking l.rows x y w;
}
