-- A printed graph and printed edits are read back.
use Rattle.std.proofs.Common.{◌≡◌, ℕ, ◌-◌, ◌^◌, ◌<◌, true, All, List, [], ◌∷◌, ◌++◌, length, Some, Ok, refl, ap, ◌∙◌, arith}
use Rattle.std.specs.Prelude.{codes, flat_map, slice_index}
use Rattle.std.specs.Fmt.{decimal}
use Rattle.std.proofs.lemmas.Bool.{le-leb}
use Rattle.std.proofs.lemmas.List.{append_assoc}
use Rattle.walk_laws.specs.declared.graph.Edge.{Edge}
use Rattle.walk_laws.specs.Graph.{IsGraph, IsEdge}
use Rattle.text_lines.specs.Words.{words_of, numbers_of}
use Rattle.text_lines.proofs.PrintedWords.{IsPrintable, IsPrintable-append, IsPrintable-from_solid, words_of-parted, words_of-last, PrintsNumber, decimal_prints}
use Rattle.dimacs_text.specs.Counted.{are_within}
use Rattle.dimacs_text.specs.EditsText.{edits_of_lines, edits_of_text}
use Rattle.dimacs_text.specs.GraphText.{graph_of_lines, graph_of_text}
use Rattle.dimacs_text.specs.PrintedTexts.{edits_text, edge_line, graph_text}
use Rattle.dimacs_text.specs.declared.fault.GrFault.TheVariants as graph_faults
use Rattle.dimacs_text.specs.declared.fault.PairsFault.TheVariants as pairs_faults
use Rattle.dimacs_text.specs.declared.edits_words.EditsWords.{EditsWords}
use Rattle.dimacs_text.specs.declared.graph_words.GraphWords.{GraphWords}
use Rattle.dimacs_text.proofs.ArcFacts.{edges_back}
use Rattle.dimacs_text.proofs.PrintedArcs.{printed_read, reads_back}

-- the first line of a printed graph, without its end
abbrev problem_bytes : ℕ → ℕ → List ℕ
problem_bytes n m = codes "p sp " ++ (decimal n ++ 32 ∷ decimal m)

-- its words
problem_words : (n m : ℕ) → PrintsNumber n → PrintsNumber m → words_of (problem_bytes n m) ≡ (112 ∷ []) ∷ (115 ∷ 112 ∷ []) ∷ decimal n ∷ decimal m ∷ []
problem_words n m pn pm =
    let last : words_of (decimal n ++ 32 ∷ decimal m) ≡ decimal n ∷ decimal m ∷ [] =
    words_of-parted (decimal n) (decimal m) pn.some pn.solid ∙ ap (λ ws. decimal n ∷ ws) (words_of-last (decimal m) pm.some pm.solid) in
    words_of-parted (112 ∷ []) (115 ∷ 112 ∷ 32 ∷ (decimal n ++ 32 ∷ decimal m)) (omega arith) (omega arith, tt)
    ∙ ap (λ ws. (112 ∷ []) ∷ ws) (words_of-parted (115 ∷ 112 ∷ []) (decimal n ++ 32 ∷ decimal m) (omega arith) (omega arith, (omega arith, tt)) ∙ ap (λ ws. (115 ∷ 112 ∷ []) ∷ ws) last)

problem_prints : (n m : ℕ) → PrintsNumber n → PrintsNumber m → IsPrintable (problem_bytes n m)
problem_prints n m pn pm =
    let back : IsPrintable (decimal n ++ 32 ∷ decimal m) = IsPrintable-append (decimal n) (32 ∷ decimal m) (IsPrintable-from_solid (decimal n) pn.solid) (omega arith, IsPrintable-from_solid (decimal m) pm.solid) in
    (omega arith, (omega arith, (omega arith, (omega arith, (omega arith, back)))))

graph_text-end : (n m : ℕ) (rest : List ℕ) → codes "p sp " ++ (decimal n ++ 32 ∷ (decimal m ++ 10 ∷ rest)) ≡ problem_bytes n m ++ 10 ∷ rest
graph_text-end n m rest = simp append_assoc

two_numbers : (n m : ℕ) → PrintsNumber n → PrintsNumber m → numbers_of (decimal n ∷ decimal m ∷ []) ≡ Some (n ∷ m ∷ [])
two_numbers n m pn pm = rw (pn.number, pm.number) refl

pub graph_read : (n : ℕ) (edges : List Edge) → IsGraph n edges → All (λ (e : Edge). e.w < 2 ^ 64) edges → length edges < 2 ^ 32 → graph_of_text (graph_text n edges) ≡ Ok (record { n = n; edges = edges })
graph_read n edges graph light few =
    let words : GraphWords = record {} in
    let m = length edges in
    let pn = decimal_prints n (omega (arith, graph.small)) in
    let pm = decimal_prints (length edges) (omega arith) in
    let within : are_within ((2 ^ 30) ∷ (2 ^ 32 - 1) ∷ []) (n ∷ m ∷ []) ≡ true = rw (le-leb n (2 ^ 30) graph.small, le-leb (length edges) (2 ^ 32 - 1) (omega arith)) refl in
    ap graph_of_text (graph_text-end n m (flat_map edge_line edges))
    ∙ printed_read (codes "sp") ((2 ^ 30) ∷ (2 ^ 32 - 1) ∷ []) (λ words counts. slice_index counts 0) graph_faults.Text graph_of_lines words (problem_bytes n m) ((115 ∷ 112 ∷ []) ∷ decimal n ∷ decimal m ∷ []) (decimal n ∷ decimal m ∷ []) (n ∷ m ∷ []) edges
    (problem_prints n m pn pm) (problem_words n m pn pm) refl refl (two_numbers n m pn pm) within refl (reads_back n edges (omega (arith, graph.small)) graph.edge light)
    ∙ ap (λ es. Ok (record { n = n; edges = es })) (edges_back edges)

-- the first line of printed edits, without its end
abbrev opening_bytes : ℕ → List ℕ
opening_bytes m = codes "p open " ++ decimal m

-- its words
opening_words : (m : ℕ) → PrintsNumber m → words_of (opening_bytes m) ≡ (112 ∷ []) ∷ (111 ∷ 112 ∷ 101 ∷ 110 ∷ []) ∷ decimal m ∷ []
opening_words m pm =
    words_of-parted (112 ∷ []) (111 ∷ 112 ∷ 101 ∷ 110 ∷ 32 ∷ decimal m) (omega arith) (omega arith, tt)
    ∙ ap (λ ws. (112 ∷ []) ∷ ws) (words_of-parted (111 ∷ 112 ∷ 101 ∷ 110 ∷ []) (decimal m) (omega arith) (omega arith, (omega arith, (omega arith, (omega arith, tt)))) ∙ ap (λ ws. (111 ∷ 112 ∷ 101 ∷ 110 ∷ []) ∷ ws) (words_of-last (decimal m) pm.some pm.solid))

opening_prints : (m : ℕ) → PrintsNumber m → IsPrintable (opening_bytes m)
opening_prints m pm =
    (omega arith, (omega arith, (omega arith, (omega arith, (omega arith, (omega arith, (omega arith, IsPrintable-from_solid (decimal m) pm.solid)))))))

edits_text-end : (m : ℕ) (rest : List ℕ) → codes "p open " ++ (decimal m ++ 10 ∷ rest) ≡ opening_bytes m ++ 10 ∷ rest
edits_text-end m rest = simp append_assoc

one_number : (m : ℕ) → PrintsNumber m → numbers_of (decimal m ∷ []) ≡ Some (m ∷ [])
one_number m pm = rw pm.number refl

pub edits_read : (n : ℕ) (edits : List Edge) → n < 2 ^ 64 → All (IsEdge n) edits → All (λ (e : Edge). e.w < 2 ^ 64) edits → length edits < 2 ^ 32 → edits_of_text n (edits_text edits) ≡ Ok edits
edits_read n edits small are light few =
    let words : EditsWords = record { n = n } in
    let m = length edits in
    let pm = decimal_prints (length edits) (omega arith) in
    let within : are_within ((2 ^ 32 - 1) ∷ []) (m ∷ []) ≡ true = rw (le-leb (length edits) (2 ^ 32 - 1) (omega arith)) refl in
    ap (edits_of_text n) (edits_text-end m (flat_map edge_line edits))
    ∙ printed_read (codes "open") ((2 ^ 32 - 1) ∷ []) (λ (words : EditsWords) counts. words.n) pairs_faults.Text edits_of_lines words (opening_bytes m) ((111 ∷ 112 ∷ 101 ∷ 110 ∷ []) ∷ decimal m ∷ []) (decimal m ∷ []) (m ∷ []) edits
    (opening_prints m pm) (opening_words m pm) refl refl (one_number m pm) within refl (reads_back n edits small are light)
    ∙ ap Ok (edges_back edits)
