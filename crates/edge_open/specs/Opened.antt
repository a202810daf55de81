-- Graphs that learn of new edges (dynamic pruned landmark labelling, WWW 2014).
use Rattle.std.specs.Prelude.{List, ◌++◌}
use Rattle.walk_laws.specs.declared.graph.Edge.{Edge}
use Rattle.walk_laws.specs.Graph.{WeightedGraph}

-- the graph with these edges appended to its list
abbrev pub opened : WeightedGraph → List Edge → WeightedGraph
opened g edges = record { n = g.n; edges = g.edges ++ edges }
