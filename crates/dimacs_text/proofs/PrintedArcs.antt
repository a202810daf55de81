-- Printed lines of edges are read back, after a `p` line.
use Rattle.std.proofs.Common.{◌≡◌, ◌≢◌, ℕ, suc, ◌+◌, ◌-◌, ◌^◌, ◌<◌, ◌≤◌, true, false, eqb, ltb, All, List, [], ◌∷◌, ◌++◌, map, length, get_or, Some, None, Result, Ok, refl, ap, sym, ◌∙◌, arith}
use Rattle.std.specs.Prelude.{codes, flat_map, if◌then◌else◌}
use Rattle.std.specs.Fmt.{decimal}
use Rattle.std.proofs.lemmas.Bool.{le-ltb}
use Rattle.std.proofs.lemmas.List.{append_assoc, append-nil, length-append, length-map}
use Rattle.walk_laws.specs.declared.graph.Edge.{Edge}
use Rattle.walk_laws.specs.Graph.{IsEdge}
use Rattle.desk_io.specs.Lines.{whole_lines, open_rest, last_line, lines_of}
use Rattle.text_lines.specs.Words.{words_of, numbers_of, is_skipped}
use Rattle.text_lines.specs.Judgement.{Progress, ◌>>=◌, number_after, after_line, after_lines, value_of_lines, value_of_text}
use Rattle.text_lines.proofs.PrintedWords.{IsPrintable, IsPrintable-append, IsPrintable-from_solid, words_of-parted, words_of-last, whole_lines-printed, open_rest-printed, PrintsNumber, decimal_prints}
use Rattle.dimacs_text.specs.Arcs.{arc_fault, arc_numbers, arcs_wording}
use Rattle.dimacs_text.specs.Counted.{Counted, Wording, none_yet, is_outside, are_within, after_words, last_of, refuse, ◌>>◌, in_line, counted_judged, counted_ended}
use Rattle.dimacs_text.specs.declared.fault.TextFault.{TextFault}
use Rattle.dimacs_text.specs.declared.fault.TextKind.TheVariants.{Count}
use Rattle.dimacs_text.specs.PrintedTexts.{edge_line}
use Rattle.dimacs_text.proofs.ArcFacts.{no_fault, apart}
use Rattle.dimacs_text.proofs.Taken.{numbers_taken, declared_taken, problem_taken, line_taken, letter_taken}

-- a printed line, without its end
abbrev arc_bytes : Edge → List ℕ
arc_bytes e = codes "a " ++ (decimal e.u ++ 32 ∷ (decimal e.v ++ 32 ∷ decimal e.w))

-- the numbers of an edge can be printed
pub record PrintsEdge (e : Edge) : Type 0 where
  pub u : PrintsNumber e.u
  pub v : PrintsNumber e.v
  pub w : PrintsNumber e.w

arc_words : (e : Edge) → PrintsEdge e → words_of (arc_bytes e) ≡ (97 ∷ []) ∷ decimal e.u ∷ decimal e.v ∷ decimal e.w ∷ []
arc_words e p =
    let last : words_of (decimal e.v ++ 32 ∷ decimal e.w) ≡ decimal e.v ∷ decimal e.w ∷ [] =
    words_of-parted (decimal e.v) (decimal e.w) p.v.some p.v.solid ∙ ap (λ ws. decimal e.v ∷ ws) (words_of-last (decimal e.w) p.w.some p.w.solid) in
    words_of-parted (97 ∷ []) (decimal e.u ++ 32 ∷ (decimal e.v ++ 32 ∷ decimal e.w)) (omega arith) (omega arith, tt)
    ∙ ap (λ ws. (97 ∷ []) ∷ ws) (words_of-parted (decimal e.u) (decimal e.v ++ 32 ∷ decimal e.w) p.u.some p.u.solid ∙ ap (λ ws. decimal e.u ∷ ws) last)

arc_prints : (e : Edge) → PrintsEdge e → IsPrintable (arc_bytes e)
arc_prints e p =
    let last : IsPrintable (decimal e.v ++ 32 ∷ decimal e.w) = IsPrintable-append (decimal e.v) (32 ∷ decimal e.w) (IsPrintable-from_solid (decimal e.v) p.v.solid) (omega arith, IsPrintable-from_solid (decimal e.w) p.w.solid) in
    let back : IsPrintable (decimal e.u ++ 32 ∷ (decimal e.v ++ 32 ∷ decimal e.w)) = IsPrintable-append (decimal e.u) (32 ∷ (decimal e.v ++ 32 ∷ decimal e.w)) (IsPrintable-from_solid (decimal e.u) p.u.solid) (omega arith, last) in
    (omega arith, (omega arith, back))

-- the lines of the text
edge_line-end : (e : Edge) (rest : List ℕ) → edge_line e ++ rest ≡ arc_bytes e ++ 10 ∷ rest
edge_line-end e rest = simp append_assoc

whole_lines-edges : (edges : List Edge) → All PrintsEdge edges → whole_lines [] (flat_map edge_line edges) ≡ map arc_bytes edges
whole_lines-edges [] prints = refl
whole_lines-edges (e ∷ edges) prints =
    ap (whole_lines []) (edge_line-end e (flat_map edge_line edges))
    ∙ whole_lines-printed (arc_bytes e) (flat_map edge_line edges) (arc_prints e (prints 0 e (omega arith)))
    ∙ ap (λ ls. arc_bytes e ∷ ls) (whole_lines-edges edges (λ k d h. prints (suc k) d (omega arith)))

open_rest-edges : (edges : List Edge) → All PrintsEdge edges → open_rest [] (flat_map edge_line edges) ≡ []
open_rest-edges [] prints = refl
open_rest-edges (e ∷ edges) prints =
    ap (open_rest []) (edge_line-end e (flat_map edge_line edges))
    ∙ open_rest-printed (arc_bytes e) (flat_map edge_line edges) (arc_prints e (prints 0 e (omega arith)))
    ∙ open_rest-edges edges (λ k d h. prints (suc k) d (omega arith))

lines_of-printed : (header : List ℕ) (edges : List Edge) → IsPrintable header → All PrintsEdge edges → lines_of (header ++ 10 ∷ flat_map edge_line edges) ≡ header ∷ map arc_bytes edges
lines_of-printed header edges printable prints =
    (λ i. whole_lines-printed header (flat_map edge_line edges) printable i ++ last_line (open_rest-printed header (flat_map edge_line edges) printable i))
    ∙ (λ i. (header ∷ whole_lines-edges edges prints i) ++ last_line (open_rest-edges edges prints i))
    ∙ append-nil (header ∷ map arc_bytes edges)

three_numbers : (e : Edge) → PrintsEdge e → numbers_of (decimal e.u ∷ decimal e.v ∷ decimal e.w ∷ []) ≡ Some (arc_numbers e)
three_numbers e p = rw (p.u.number, p.v.number, p.w.number) refl

is_inside : (n v : ℕ) → 1 ≤ v → v ≤ n → is_outside n v ≡ false
is_inside n v some within = rw (apart v 0 (omega arith), le-ltb n v within) refl

-- an edge of a weight below 2^64 has no fault
edge_faultless : (n : ℕ) (e : Edge) → IsEdge n e → e.w ≤ 2 ^ 64 - 1 → arc_fault n (arc_numbers e) ≡ None
edge_faultless n e edge light =
    let some : e.w ≢ 0 = omega (arith, edge.weight) in
    no_fault (is_outside n e.u) (is_outside n e.v) (eqb e.w 0) (ltb (2 ^ 64 - 1) e.w) (is_inside n e.u edge.from_one edge.up_to_n) (is_inside n e.v edge.to_one edge.to_n) (apart e.w 0 some) (le-ltb (2 ^ 64 - 1) e.w light)

-- an edge that can be read back
pub record ReadsBack (n : ℕ) (e : Edge) : Type 0 where
  pub prints : PrintsEdge e
  pub edge : IsEdge n e
  pub light : e.w ≤ 2 ^ 64 - 1

pub reads_back : (n : ℕ) (edges : List Edge) → n < 2 ^ 64 → All (IsEdge n) edges → All (λ (e : Edge). e.w < 2 ^ 64) edges → All (ReadsBack n) edges
reads_back n edges small are below = λ k d h.
    let e = get_or edges k d in
    let edge = are k d h in
    let light = below k d h in
    record {
      prints = record {
        u = decimal_prints e.u (omega (arith, edge.up_to_n, small));
        v = decimal_prints e.v (omega (arith, edge.to_n, small));
        w = decimal_prints e.w light;
      };
      edge = edge;
      light = omega (arith, light);
    }

module _ {T V F : Type 0} (fixed : List ℕ) (limits : List ℕ) (nodes_of : T → List ℕ → ℕ) (fault : TextFault → F) (value_of : T → List ℕ → List (List ℕ) → Result V F) where
  abbrev wording : T → Wording
  wording text = arcs_wording fixed limits (nodes_of text)

  abbrev judged : Counted T → ℕ → List (List ℕ) → Result (Counted T) F
  judged = counted_judged wording fault value_of

  abbrev ended : Counted T → ℕ → Result V F
  ended = counted_ended wording fault value_of

  -- how the words of a line that isn't skipped are judged
  abbrev judged_words : Progress (Counted T) → List (List ℕ) → Result (Progress (Counted T)) F
  judged_words at words =
      (if is_skipped words then Ok at.state else judged at.state at.next words) >>= λ state. Ok (record { next = number_after at.next; state = state })

  abbrev after_problem : T → List ℕ → List (List ℕ) → Counted T
  after_problem text counts lines = record { text = text; counts = Some counts; lines = lines }

  -- a `p` line with these words, and then counts
  problem_judged : (text : T) (header : List ℕ) (words after : List (List ℕ)) (counts : List ℕ) → words_of header ≡ (112 ∷ []) ∷ words → after_words (words_of fixed) words ≡ Some after → length after ≡ length limits → numbers_of after ≡ Some counts → are_within limits counts ≡ true → after_line judged ended (record { next = 1; state = none_yet text }) header ≡ Ok (record { next = number_after 1; state = after_problem text counts [] })
  problem_judged text header words after counts are is_after many numbers within =
      ap (judged_words (record { next = 1; state = none_yet text })) are
      ∙ ap (λ r. in_line fault 1 r >>= λ state. Ok (record { next = number_after 1; state = state }))
      (problem_taken (wording text) (none_yet text) words counts refl (declared_taken (wording text) words after counts is_after (numbers_taken (length limits) after counts many numbers) within))

  arc_judged : (text : T) (counts : List ℕ) (next : ℕ) (lines : List (List ℕ)) (e : Edge) → ReadsBack (nodes_of text counts) e → length lines < last_of counts → after_line judged ended (record { next = next; state = after_problem text counts lines }) (arc_bytes e) ≡ Ok (record { next = number_after next; state = after_problem text counts (lines ++ arc_numbers e ∷ []) })
  arc_judged text counts next lines e reads room =
      let w = wording text in
      let p = reads.prints in
      let differ : length lines ≢ last_of counts = omega arith in
      ap (judged_words (record { next = next; state = after_problem text counts lines })) (arc_words e p)
      ∙ ap (λ r. in_line fault next r >>= λ state. Ok (record { next = number_after next; state = state }))
      (letter_taken w (after_problem text counts lines) (decimal e.u ∷ decimal e.v ∷ decimal e.w ∷ []) counts (arc_numbers e) refl
      (line_taken w counts (decimal e.u ∷ decimal e.v ∷ decimal e.w ∷ []) (arc_numbers e) (numbers_taken 3 (decimal e.u ∷ decimal e.v ∷ decimal e.w ∷ []) (arc_numbers e) refl (three_numbers e p)) (edge_faultless (nodes_of text counts) e reads.edge reads.light))
      (apart (length lines) (last_of counts) differ))

  arcs_judged : (text : T) (counts : List ℕ) (edges : List Edge) (next : ℕ) (lines : List (List ℕ)) → All (ReadsBack (nodes_of text counts)) edges → length lines + length edges ≤ last_of counts → (last : ℕ) × (after_lines judged ended (record { next = next; state = after_problem text counts lines }) (map arc_bytes edges) ≡ Ok (record { next = last; state = after_problem text counts (lines ++ map arc_numbers edges) }))
  arcs_judged text counts [] next lines each room =
      (next, ap (λ ls. Ok (record { next = next; state = after_problem text counts ls })) (sym (append-nil lines)))
  arcs_judged text counts (e ∷ edges) next lines each room =
      let first = each 0 e (omega arith) in
      let here : length lines < last_of counts = omega arith in
      let is = arc_judged text counts next lines e first here in
      let more : length (lines ++ arc_numbers e ∷ []) + length edges ≤ last_of counts = omega (arith, length-append lines (arc_numbers e ∷ [])) in
      let after = arcs_judged text counts edges (number_after next) (lines ++ arc_numbers e ∷ []) (λ k d h. each (suc k) d (omega arith)) more in (
        after.0,
        ap (λ r. r >>= λ after. after_lines judged ended after (map arc_bytes edges)) is ∙ after.1
            ∙ ap (λ ls. Ok (record { next = after.0; state = after_problem text counts ls })) (append_assoc lines (arc_numbers e ∷ []) (map arc_numbers edges)),
      )

  -- a printed text comes to what its counts and edges stand for
  pub printed_read : (text : T) (header : List ℕ) (words after : List (List ℕ)) (counts : List ℕ) (edges : List Edge) → IsPrintable header → words_of header ≡ (112 ∷ []) ∷ words → after_words (words_of fixed) words ≡ Some after → length after ≡ length limits → numbers_of after ≡ Some counts → are_within limits counts ≡ true → last_of counts ≡ length edges → All (ReadsBack (nodes_of text counts)) edges → value_of_text judged ended (none_yet text) (header ++ 10 ∷ flat_map edge_line edges) ≡ value_of text counts (map arc_numbers edges)
  printed_read text header words after counts edges printable are is_after many numbers within last each =
      let arcs = arcs_judged text counts edges (number_after 1) [] each (omega arith) in
      let enough : last_of counts ≤ length (map arc_numbers edges) = omega (arith, length-map edges arc_numbers) in
      ap (value_of_lines judged ended (record { next = 1; state = none_yet text })) (lines_of-printed header edges printable (λ k d h. (each k d h).prints))
      ∙ ap (λ r. (r >>= λ after. after_lines judged ended after (map arc_bytes edges)) >>= λ after. ended after.state after.next) (problem_judged text header words after counts are is_after many numbers within)
      ∙ ap (λ r. r >>= λ after. ended after.state after.next) arcs.1
      ∙ ap (λ t. in_line fault arcs.0 (refuse t (Count (last_of counts) (length (map arc_numbers edges))) >> Ok counts) >>= λ counts. value_of text counts (map arc_numbers edges)) (le-ltb (length (map arc_numbers edges)) (last_of counts) enough)
