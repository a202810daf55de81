use Rattle.std.proofs.Common.{◌≡◌, ◌++◌, List, All}
use Rattle.walk_laws.specs.declared.graph.Edge.{Edge}
use Rattle.walk_laws.specs.LightestArcs.{IsLeastEdge}
use Rattle.walk_laws.proofs.LightestRows.{HaveEdges}
use Rattle.walk_laws.proofs.lightest.push_lightest.Given as goal

-- edges have been put for the neighbours of the arcs so far
abbrev pub invariant-loop-k : goal.invariant-loop-k
invariant-loop-k l = record {
  more : (more : List Edge) × (l.edges.items ≡ l.fn.edges.items ++ more) × All (IsLeastEdge l.arcs l.v) more × HaveEdges l.arcs l.v l.k more;
}
