-- The lightest arcs at a node.
use Rattle.std.specs.Prelude.{◌≡◌, ℕ, ◌-◌, ◌<◌, ◌≤◌, List, Contains, slice_index_or}
use Rattle.walk_laws.specs.declared.graph.Edge.{Edge}
use Rattle.walk_laws.specs.declared.graph.Arc.{Arc}

abbrev pub no_arc : Arc
no_arc = record { to = 0; w = 0 }

-- the arc at a place leads to the same neighbour as the one before it
abbrev pub FollowsItsLike : List Arc → ℕ → Type 0
FollowsItsLike arcs k = (0 < k) × ((slice_index_or arcs (k - 1) no_arc).to ≡ (slice_index_or arcs k no_arc).to)

-- w is the least weight of the arcs to t
pub record IsLeastTo (arcs : List Arc) (t w : ℕ) : Type 0 where
  pub there : Contains arcs (record { to = t; w = w })
  pub least : (u : ℕ) → Contains arcs (record { to = t; w = u }) → w ≤ u

-- an edge from v to a neighbour with a greater number, of the least weight of the arcs to it
pub record IsLeastEdge (arcs : List Arc) (v : ℕ) (e : Edge) : Type 0 where
  pub from : e.u ≡ v
  pub rises : v < e.v
  pub least : IsLeastTo arcs e.v e.w
