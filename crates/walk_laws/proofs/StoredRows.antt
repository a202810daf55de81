-- Compressed rows: the arcs of all nodes in one list, and where those of each node begin.
use Rattle.std.specs.Prelude.{ℕ, ◌-◌, ◌<◌, ◌≤◌, List, [], All, length, slice_index, slice_range}
use Rattle.std.specs.List.Sorted.{IsNonDecreasing}
use Rattle.walk_laws.specs.declared.graph.Edge.{Edge}
use Rattle.walk_laws.specs.declared.graph.Arc.{Arc}
use Rattle.walk_laws.specs.Graph.{IsGraph, IsRowOf, arcs_at}

-- A graph; the starts rise within the arcs, between that of a node and the next lies the node's row, and the rows of later
-- nodes are empty. The invariant of `Graph` writes this out.
abbrev pub IsStored : ℕ → List Edge → List Arc → List ℕ → Type 0
IsStored n edges arcs starts =
    IsGraph n edges
    × IsNonDecreasing starts
    × All (λ at. at ≤ length arcs) starts
    × ((v : ℕ) → 1 ≤ v → v < length starts → IsRowOf (arcs_at edges v) (slice_range arcs (slice_index starts (v - 1)) (slice_index starts v)))
    × ((v : ℕ) → length starts ≤ v → IsRowOf (arcs_at edges v) [])
