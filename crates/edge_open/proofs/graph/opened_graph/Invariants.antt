use Rattle.std.proofs.Common.{◌≡◌, ◌^◌, ◌<◌, ◌++◌, All, take}
use Rattle.edge_open.proofs.graph.opened_graph.Given as goal

-- after the old edges stand those so far
abbrev pub invariant-loop-edge : goal.invariant-loop-edge
invariant-loop-edge l = record {
  items : l.all.items ≡ l.graph.edges ++ take l.edge-index l.edges;
  light : All (λ e. e.w < 2 ^ 64) (take l.edge-index l.edges);
}
