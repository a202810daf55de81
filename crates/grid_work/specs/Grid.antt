-- The graph of a square grid: its nodes are numbered row by row from 1, and its edges have weights that come from a seed.
use Rattle.std.specs.Prelude.{ℕ, ◌+◌, ◌*◌, List, [], ◌∷◌, ◌++◌, flat_map, nat_lt, if◌then◌else◌}
use Rattle.std.specs.List.{range_with_len}
use Rattle.walk_laws.specs.declared.graph.Edge.{Edge}
use Rattle.walk_laws.specs.Graph.{WeightedGraph}
use Rattle.grid_work.specs.Weights.{next_number, weight_of}

-- the node at a row and a column, both from 0
abbrev pub node_at : ℕ → ℕ → ℕ → ℕ
node_at side row column = row * side + column + 1

-- the ends of the edges from the node at a row and a column: to its right neighbour, and then to its lower one, where it has them
abbrev pub ends_from : ℕ → ℕ → ℕ → List (ℕ × ℕ)
ends_from side row column =
    (if nat_lt (column + 1) side then (node_at side row column, node_at side row (column + 1)) ∷ [] else [])
    ++ (if nat_lt (row + 1) side then (node_at side row column, node_at side (row + 1) column) ∷ [] else [])

-- the ends of the edges from the nodes of a row, and from all nodes: so the nodes come by rising number
abbrev pub ends_in_row : ℕ → ℕ → List (ℕ × ℕ)
ends_in_row side row = flat_map (ends_from side row) (range_with_len 0 side)

abbrev pub grid_ends : ℕ → List (ℕ × ℕ)
grid_ends side = flat_map (ends_in_row side) (range_with_len 0 side)

-- edges with these ends, of which each takes its weight from the next of the numbers after x
abbrev pub weighted : ℕ → List (ℕ × ℕ) → List Edge
weighted x [] = []
weighted x (ends ∷ others) = record { u = ends.0; v = ends.1; w = weight_of (next_number x) } ∷ weighted (next_number x) others

-- the edges of the grid of a side, with weights from a seed
abbrev pub grid_edges : ℕ → ℕ → List Edge
grid_edges side seed = weighted seed (grid_ends side)

-- its graph
abbrev pub grid : ℕ → ℕ → WeightedGraph
grid side seed = record { n = side * side; edges = grid_edges side seed }
