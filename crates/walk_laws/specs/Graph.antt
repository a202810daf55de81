-- A weighted undirected graph, as the shortest path files of the ninth DIMACS challenge have it.
use Rattle.std.specs.Prelude.{◌≡◌, ℕ, ◌*◌, ◌^◌, ◌<◌, ◌≤◌, ◌==◌, List, [], ◌∷◌, ◌++◌, All, filter, map, max, if◌then◌else◌}
use Rattle.std.specs.List.Sorted.{IsNonDecreasing}
use Rattle.walk_laws.specs.declared.graph.Edge.{Edge}
use Rattle.walk_laws.specs.declared.graph.Arc.{Arc}

-- a number of nodes, which are 1..n, and a list of edges
pub record WeightedGraph : Type 0 where
  pub n : ℕ
  pub edges : List Edge

-- the greatest weight of an edge, 0 without edges
abbrev pub greatest_weight : List Edge → ℕ
greatest_weight [] = 0
greatest_weight (e ∷ edges) = max e.w (greatest_weight edges)

-- both ends of an edge are nodes, and its weight is at least 1
pub record IsEdge (n : ℕ) (e : Edge) : Type 0 where
  pub from_one : 1 ≤ e.u
  pub up_to_n : e.u ≤ n
  pub to_one : 1 ≤ e.v
  pub to_n : e.v ≤ n
  pub weight : 1 ≤ e.w

-- at most 2^30 nodes, edges between nodes, and no shortest walk as long as 2^94, which holds where all weights are below 2^64
pub record IsGraph (n : ℕ) (edges : List Edge) : Type 0 where
  pub small : n ≤ 2 ^ 30
  pub edge : All (IsEdge n) edges
  pub fits : n * greatest_weight edges < 2 ^ 94

-- the arcs at a node, in the order of the list: each edge once for each of its ends that is the node
abbrev pub arcs_at : List Edge → ℕ → List Arc
arcs_at [] v = []
arcs_at (e ∷ edges) v =
    (if e.u == v then record { to = e.v; w = e.w } ∷ [] else [])
    ++ ((if e.v == v then record { to = e.u; w = e.w } ∷ [] else []) ++ arcs_at edges v)

-- the row has these arcs by rising neighbour, and those to one neighbour in their order
pub record IsRowOf (arcs row : List Arc) : Type 0 where
  pub rising : IsNonDecreasing (map (λ a. a.to) row)
  pub each : (t : ℕ) → filter (λ a. a.to == t) row ≡ filter (λ a. a.to == t) arcs
