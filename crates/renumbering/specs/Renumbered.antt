-- Other numbers for the nodes 1..n. A bfs_order is a list of all nodes, each once; the new number of a node is its place in the
-- bfs_order, counted from 1.
use Rattle.std.specs.Prelude.{ℕ, ◌+◌, ◌-◌, List, [], Vec, map, slice_index_or}
use Rattle.std.proofs.Common.{Global}
use Rattle.walk_laws.specs.declared.graph.Edge.{Edge}
use Rattle.walk_laws.specs.Ranking.{position_of}

-- the new number of a node
abbrev pub number_in : List ℕ → ℕ → ℕ
number_in bfs_order v = position_of bfs_order v + 1

-- the edge between the new numbers
abbrev pub renumbered_edge : List ℕ → Edge → Edge
renumbered_edge bfs_order e = record { u = number_in bfs_order e.u; v = number_in bfs_order e.v; w = e.w }

abbrev pub renumbered_edges : List ℕ → List Edge → List Edge
renumbered_edges bfs_order edges = map (renumbered_edge bfs_order) edges

-- the nodes of a list by their new numbers
abbrev pub renumbered : List ℕ → List ℕ → List ℕ
renumbered bfs_order at = map (number_in bfs_order) at

-- the list of the node v, of lists of which the first is that of node 1
abbrev pub list_of : {X : Type 0} → List (Vec X Global) → ℕ → List X
list_of lists v = slice_index_or (map (λ list. list.items) lists) (v - 1) []
