-- An edits text: `p open K` and then K lines `a U V W`, each an edge between two nodes from 1 to n, the number of nodes of the
-- graph that the edges are added to. It is judged as a graph text is, but for the words after `p`.
use Rattle.std.specs.Prelude.{ℕ, ◌-◌, ◌^◌, map, List, [], ◌∷◌, Option, Result, Ok, codes}
use Rattle.walk_laws.specs.declared.graph.Edge.{Edge}
use Rattle.text_lines.specs.Judgement.{value_of_text, fault_within}
use Rattle.dimacs_text.specs.Counted.{Wording, Counted, counted_judged, counted_ended, none_yet}
use Rattle.dimacs_text.specs.Arcs.{arcs_wording, edge_of}
use Rattle.dimacs_text.specs.declared.fault.PairsFault.{PairsFault}
use Rattle.dimacs_text.specs.declared.fault.PairsFault.TheVariants.{Text}
use Rattle.dimacs_text.specs.declared.edits_words.EditsWords.{EditsWords}

-- fewer than 2^32 edges
abbrev pub edits_wording : EditsWords → Wording
edits_wording words = arcs_wording (codes "open") ((2 ^ 32 - 1) ∷ []) (λ counts. words.n)

-- the edges, in their order; an edge may stand more than once, and may lead from a node to itself
abbrev pub edits_of_lines : EditsWords → List ℕ → List (List ℕ) → Result (List Edge) PairsFault
edits_of_lines words counts lines = Ok (map edge_of lines)

-- how a line is judged, and how the end
abbrev pub edits_judged : Counted EditsWords → ℕ → List (List ℕ) → Result (Counted EditsWords) PairsFault
edits_judged = counted_judged edits_wording Text edits_of_lines

abbrev pub edits_ended : Counted EditsWords → ℕ → Result (List Edge) PairsFault
edits_ended = counted_ended edits_wording Text edits_of_lines

-- the edges between nodes of 1..n that a whole text stands for, or its first fault
abbrev pub edits_of_text : ℕ → List ℕ → Result (List Edge) PairsFault
edits_of_text n text = value_of_text edits_judged edits_ended (none_yet (record { n = n })) text

-- the first fault among the lines of a text that an LF ends
abbrev pub edits_fault_within : ℕ → List ℕ → Option PairsFault
edits_fault_within n text = fault_within edits_judged edits_ended (none_yet (record { n = n })) text
