-- Compressed rows: the arcs of all nodes in one list, those of each node side by side.
use Rattle.std.specs.Prelude.{◌≡◌, ℕ, zero, suc, ◌+◌, ◌/◌, ◌^◌, ◌<◌, ◌≤◌, List, [], All, length, nat_lt, slice_index, slice_range, if◌then◌else◌}
use Rattle.walk_laws.specs.declared.graph.Edge.{Edge}
use Rattle.walk_laws.specs.declared.graph.Arc.{Arc}
use Rattle.walk_laws.specs.Graph.{arcs_at}

-- each edge joins nodes below a bound
abbrev pub AreWithin : List Edge → ℕ → Type 0
AreWithin edges bound = All (λ e. (e.u < bound) × (e.v < bound)) edges

-- how many arcs the nodes before v have in all
abbrev pub arcs_before : List Edge → ℕ → ℕ
arcs_before edges zero = 0
arcs_before edges (suc v) = arcs_before edges v + length (arcs_at edges v)

-- these rows, of the nodes in the ranges of 2 ^ shift nodes before the given one alone
abbrev pub rows_before : (ℕ → List Arc) → ℕ → ℕ → ℕ → List Arc
rows_before row shift range v = if nat_lt (v / 2 ^ shift) range then row v else []

-- of each node below the length of next, these rows stand where its arcs are to begin, and next is where each of them ends
pub record IsPlaced (edges : List Edge) (row : ℕ → List Arc) (arcs : List Arc) (next : List ℕ) : Type 0 where
  pub room : arcs_before edges (length next) ≤ length arcs
  pub ends : (v : ℕ) → v < length next → slice_index next v ≡ arcs_before edges v + length (row v)
  pub rows : (v : ℕ) → v < length next → slice_range arcs (arcs_before edges v) (slice_index next v) ≡ row v
