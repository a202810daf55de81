-- A graph text, in the format of the ninth DIMACS challenge: `p sp N M` and then M lines `a U V W`. Each line is an edge
-- between the nodes U and V, from 1 to N, of weight W.
use Rattle.std.specs.Prelude.{ℕ, ◌-◌, ◌^◌, map, List, [], ◌∷◌, Option, Result, Ok, codes, slice_index}
use Rattle.walk_laws.specs.Graph.{WeightedGraph}
use Rattle.text_lines.specs.Judgement.{value_of_text, fault_within}
use Rattle.dimacs_text.specs.Counted.{Wording, Counted, counted_judged, counted_ended, none_yet}
use Rattle.dimacs_text.specs.Arcs.{arcs_wording, edge_of}
use Rattle.dimacs_text.specs.declared.fault.GrFault.{GrFault}
use Rattle.dimacs_text.specs.declared.fault.GrFault.TheVariants.{Text}
use Rattle.dimacs_text.specs.declared.graph_words.GraphWords.{GraphWords}

-- at most 2^30 nodes, and fewer than 2^32 arcs
abbrev pub graph_wording : GraphWords → Wording
graph_wording words = arcs_wording (codes "sp") ((2 ^ 30) ∷ (2 ^ 32 - 1) ∷ []) (λ counts. slice_index counts 0)

-- N nodes and the edges of the lines
abbrev pub graph_of_lines : GraphWords → List ℕ → List (List ℕ) → Result WeightedGraph GrFault
graph_of_lines words counts lines = Ok (record { n = slice_index counts 0; edges = map edge_of lines })

-- how a line is judged, and how the end
abbrev pub graph_judged : Counted GraphWords → ℕ → List (List ℕ) → Result (Counted GraphWords) GrFault
graph_judged = counted_judged graph_wording Text graph_of_lines

abbrev pub graph_ended : Counted GraphWords → ℕ → Result WeightedGraph GrFault
graph_ended = counted_ended graph_wording Text graph_of_lines

-- the graph that a whole text stands for, or its first fault
abbrev pub graph_of_text : List ℕ → Result WeightedGraph GrFault
graph_of_text text = value_of_text graph_judged graph_ended (none_yet (record {})) text

-- the first fault among the lines of a text that an LF ends
abbrev pub graph_fault_within : List ℕ → Option GrFault
graph_fault_within text = fault_within graph_judged graph_ended (none_yet (record {})) text
