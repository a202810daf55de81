use Rattle.std.proofs.Common.{All}
use Rattle.walk_laws.specs.Lightest.{IsLightest}
use Rattle.walk_laws.proofs.LightestRows.{JoinedBelow}
use Rattle.walk_laws.proofs.graph.Graph.lightest.Given as goal

-- the lightest edges from the nodes so far
abbrev pub invariant-loop-v : goal.invariant-loop-v
invariant-loop-v l = record {
  each : All (IsLightest l.self.edges) l.edges.items;
  below : JoinedBelow l.self.edges l.v l.edges.items;
}
