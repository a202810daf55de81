-- The lines of edges, `a U V W`: each is an edge between the nodes U and V, from 1 to some n, of weight W.
use Rattle.std.specs.Prelude.{ℕ, ◌-◌, ◌^◌, ◌==◌, ◌||◌, nat_lt, List, [], ◌∷◌, Option, Some, None, slice_index, if◌then◌else◌}
use Rattle.walk_laws.specs.declared.graph.Edge.{Edge}
use Rattle.dimacs_text.specs.Counted.{Wording, is_outside}
use Rattle.dimacs_text.specs.declared.fault.TextKind.{TextKind}
use Rattle.dimacs_text.specs.declared.fault.TextKind.TheVariants.{NodeRange, ZeroWeight, WeightRange}

-- the fault of U, V and W: 5. a node outside 1..n; 6. a weight of 0, or of 2^64 or more
abbrev pub arc_fault : ℕ → List ℕ → Option TextKind
arc_fault n numbers =
    if is_outside n (slice_index numbers 0) || is_outside n (slice_index numbers 1) then Some NodeRange
    else (if slice_index numbers 2 == 0 then Some ZeroWeight
    else (if nat_lt (2 ^ 64 - 1) (slice_index numbers 2) then Some WeightRange
    else None))

-- the words of a text of such lines, after fixed words and counts within limits; `nodes_of` says how many nodes there are, by
-- the counts
abbrev pub arcs_wording : List ℕ → List ℕ → (List ℕ → ℕ) → Wording
arcs_wording fixed limits nodes_of = record {
  fixed = fixed;
  limits = limits;
  letter = 97;
  numbers = 3;
  fault_of = λ counts. arc_fault (nodes_of counts);
}

-- the numbers of the line of an edge
abbrev pub arc_numbers : Edge → List ℕ
arc_numbers e = e.u ∷ e.v ∷ e.w ∷ []

-- the edge of a line
abbrev pub edge_of : List ℕ → Edge
edge_of numbers = record { u = slice_index numbers 0; v = slice_index numbers 1; w = slice_index numbers 2 }
