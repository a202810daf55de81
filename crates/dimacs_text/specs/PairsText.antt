-- A pairs text, in the format of the ninth DIMACS challenge: `p aux sp p2p K` and then K lines `q S T`, each a pair of nodes
-- from 1 to n, the number of nodes of the graph or index that is asked.
use Rattle.std.specs.Prelude.{ℕ, ◌-◌, ◌^◌, ◌||◌, map, List, [], ◌∷◌, Option, Some, None, Result, Ok, codes, slice_index, if◌then◌else◌}
use Rattle.text_lines.specs.Judgement.{value_of_text, fault_within}
use Rattle.dimacs_text.specs.Counted.{Wording, Counted, is_outside, counted_judged, counted_ended, none_yet}
use Rattle.dimacs_text.specs.declared.fault.TextKind.{TextKind}
use Rattle.dimacs_text.specs.declared.fault.TextKind.TheVariants.{NodeRange}
use Rattle.dimacs_text.specs.declared.fault.PairsFault.{PairsFault}
use Rattle.dimacs_text.specs.declared.fault.PairsFault.TheVariants.{Text}
use Rattle.dimacs_text.specs.declared.pairs_words.PairsWords.{PairsWords}

-- the fault of S and T: 5. a node outside 1..n
abbrev pub pair_fault : ℕ → List ℕ → List ℕ → Option TextKind
pair_fault n counts numbers =
    if is_outside n (slice_index numbers 0) || is_outside n (slice_index numbers 1) then Some NodeRange else None

-- fewer than 2^32 pairs
abbrev pub pairs_wording : PairsWords → Wording
pairs_wording words = record {
  fixed = codes "aux sp p2p";
  limits = (2 ^ 32 - 1) ∷ [];
  letter = 113;
  numbers = 2;
  fault_of = pair_fault words.n;
}

-- the numbers of the line of a pair
abbrev pub pair_numbers : ℕ × ℕ → List ℕ
pair_numbers pair = pair.0 ∷ pair.1 ∷ []

-- the pair of a line
abbrev pub pair_of : List ℕ → ℕ × ℕ
pair_of numbers = (slice_index numbers 0, slice_index numbers 1)

-- the pairs, in their order; a pair may stand more than once
abbrev pub pairs_of_lines : PairsWords → List ℕ → List (List ℕ) → Result (List (ℕ × ℕ)) PairsFault
pairs_of_lines words counts lines = Ok (map pair_of lines)

-- how a line is judged, and how the end
abbrev pub pairs_judged : Counted PairsWords → ℕ → List (List ℕ) → Result (Counted PairsWords) PairsFault
pairs_judged = counted_judged pairs_wording Text pairs_of_lines

abbrev pub pairs_ended : Counted PairsWords → ℕ → Result (List (ℕ × ℕ)) PairsFault
pairs_ended = counted_ended pairs_wording Text pairs_of_lines

-- the pairs of nodes 1..n that a whole text stands for, or its first fault
abbrev pub pairs_of_text : ℕ → List ℕ → Result (List (ℕ × ℕ)) PairsFault
pairs_of_text n text = value_of_text pairs_judged pairs_ended (none_yet (record { n = n })) text

-- the first fault among the lines of a text that an LF ends
abbrev pub pairs_fault_within : ℕ → List ℕ → Option PairsFault
pairs_fault_within n text = fault_within pairs_judged pairs_ended (none_yet (record { n = n })) text
