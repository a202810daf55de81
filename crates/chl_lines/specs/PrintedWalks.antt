-- The printed walks of pairs, found in a graph or told by vias.
use Rattle.std.specs.Prelude.{ℕ, List, [], ◌∷◌, ◌++◌, codes, flat_map}
use Rattle.std.specs.Fmt.{decimal}
use Rattle.hub_query.specs.declared.path_answer.Path.{Path}
use Rattle.hub_query.specs.declared.path_answer.Path.TheVariants.{Sizes, Unreachable, Walk, Stuck}
use Rattle.via_trace.specs.declared.trace_answer.Trace.{Trace}
use Rattle.via_trace.specs.declared.trace_answer.Trace.TheVariants as traces

-- a space and a node
abbrev pub node_word : ℕ → List ℕ
node_word v = 32 ∷ decimal v

-- a letter with its space, `S T D`, and then the nodes of a walk of length D, from S to T. Ended by one LF
abbrev pub passing_line : List ℕ → ℕ × ℕ → ℕ → List ℕ → List ℕ
passing_line letter pair long nodes =
    letter ++ (decimal pair.0 ++ (32 ∷ decimal pair.1) ++ (32 ∷ decimal long) ++ flat_map node_word nodes ++ 10 ∷ [])

-- `u S T`: no walk. Ended by one LF
abbrev pub apart_line : ℕ × ℕ → List ℕ
apart_line pair = codes "u " ++ (decimal pair.0 ++ (32 ∷ decimal pair.1) ++ 10 ∷ [])

-- `w S T D` and the nodes of a walk, or `u S T`. An index of another graph has no line
abbrev pub walk_line : ℕ × ℕ → Path → List ℕ
walk_line pair (Walk long nodes) = passing_line (codes "w ") pair long nodes
walk_line pair Unreachable = apart_line pair
walk_line pair (Sizes graph index) = []
walk_line pair (Stuck at to) = []

-- the lines of pairs with their walks
abbrev pub walk_lines : List (ℕ × ℕ) → List Path → List ℕ
walk_lines [] walks = []
walk_lines (pair ∷ pairs) [] = []
walk_lines (pair ∷ pairs) (walk ∷ walks) = walk_line pair walk ++ walk_lines pairs walks

-- `t S T D` and the nodes of a walk that vias tell, or `u S T`. A trace that is broken has no line
abbrev pub trace_line : ℕ × ℕ → Trace → List ℕ
trace_line pair (traces.Walk long nodes) = passing_line (codes "t ") pair long nodes
trace_line pair traces.Unreachable = apart_line pair
trace_line pair (traces.Broken at hub) = []

-- the lines of pairs with their traces
abbrev pub trace_lines : List (ℕ × ℕ) → List Trace → List ℕ
trace_lines [] told = []
trace_lines (pair ∷ pairs) [] = []
trace_lines (pair ∷ pairs) (trace ∷ told) = trace_line pair trace ++ trace_lines pairs told
