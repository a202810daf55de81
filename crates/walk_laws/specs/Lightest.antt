-- The edges that matter: of the edges between two nodes the lightest, and no loop.
use Rattle.std.specs.Prelude.{◌≢◌, ℕ, ◌<◌, ◌≤◌, List, All}
use Rattle.walk_laws.specs.declared.graph.Edge.{Edge}
use Rattle.walk_laws.specs.Joined.{Joined}

-- the edge joins two nodes, of which it names the lesser first, and no edge between them is lighter
pub record IsLightest (edges : List Edge) (e : Edge) : Type 0 where
  pub ends : e.u < e.v
  pub known : Joined edges e.u e.v e.w
  pub least : (w : ℕ) → Joined edges e.u e.v w → e.w ≤ w

-- the edges kept are such, and any two nodes that an edge joins are still joined
pub record AreLightest (edges kept : List Edge) : Type 0 where
  pub each : All (IsLightest edges) kept
  pub joined : (x y w : ℕ) → x ≢ y → Joined edges x y w → (u : ℕ) × Joined kept x y u
