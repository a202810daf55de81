-- The ranking of a graph's nodes by degree.
use Rattle.std.specs.Prelude.{◌≡◌, ℕ, List, length}
use Rattle.std.specs.Ordering.{nat_cmp, ordering_then}
use Rattle.std.specs.declared.cmp.Ordering.{Ordering}
use Rattle.std.specs.List.Sorted.{IsStrictlySortedBy}
use Rattle.walk_laws.specs.declared.graph.Edge.{Edge}
use Rattle.walk_laws.specs.Graph.{WeightedGraph, arcs_at}
use Rattle.walk_laws.specs.Ranking.{IsRanking}

-- the degree of a node: each edge counts once for each of its ends that is the node
abbrev pub degree : List Edge → ℕ → ℕ
degree edges v = length (arcs_at edges v)

-- which of two nodes comes first: the one of the greater degree, and of one degree the one with the lower number
abbrev pub compare_by_degree : List Edge → ℕ → ℕ → Ordering
compare_by_degree edges x y = ordering_then (nat_cmp (degree edges y) (degree edges x)) (nat_cmp x y)

-- a ranking of all nodes of the graph, in which each comes before those after it by degree
pub record IsByDegree (graph : WeightedGraph) (at : List ℕ) : Type 0 where
  pub ranking : IsRanking at
  pub all : length at ≡ graph.n
  pub falling : IsStrictlySortedBy (compare_by_degree graph.edges) at
