-- What accepted texts stand for: graphs, pairs of nodes, and edges between nodes.
use Rattle.std.proofs.Common.{◌≡◌, inl, inr, ℕ, ◌*◌, ◌^◌, ◌<◌, ◌≤◌, Bool, true, false, cond, All, List, [], ◌∷◌, ◌++◌, map, max, length, get_or, Some, None, Ok, refl, subst, sym, arith}
use Rattle.std.specs.Prelude.{◌||◌}
use Rattle.std.proofs.lemmas.Bool.Decides.{leb_tells}
use Rattle.std.proofs.lemmas.List.{length-map, get_or-map}
use Rattle.std.proofs.lemmas.List.Elements.{All-append}
use Rattle.walk_laws.specs.declared.graph.Edge.{Edge}
use Rattle.walk_laws.specs.Graph.{WeightedGraph, IsGraph, IsEdge, greatest_weight}
use Rattle.dimacs_text.specs.Counted.{is_outside}
use Rattle.dimacs_text.specs.Arcs.{edge_of}
use Rattle.dimacs_text.specs.EditsText.{edits_wording, edits_of_lines, edits_of_text}
use Rattle.dimacs_text.specs.GraphText.{graph_wording, graph_of_lines, graph_of_text}
use Rattle.dimacs_text.specs.PairsText.{pair_fault, pair_of, pairs_wording, pairs_of_lines, pairs_of_text}
use Rattle.dimacs_text.specs.declared.fault.GrFault.{GrFault}
use Rattle.dimacs_text.specs.declared.fault.GrFault.TheVariants.{Text}
use Rattle.dimacs_text.specs.declared.fault.PairsFault.{PairsFault}
use Rattle.dimacs_text.specs.declared.fault.PairsFault.TheVariants as pairs_fault
use Rattle.dimacs_text.specs.declared.fault.TextKind.TheVariants.{NodeRange}
use Rattle.dimacs_text.specs.declared.edits_words.EditsWords.{EditsWords}
use Rattle.dimacs_text.specs.declared.graph_words.GraphWords.{GraphWords}
use Rattle.dimacs_text.specs.declared.pairs_words.PairsWords.{PairsWords}
use Rattle.dimacs_text.proofs.ArcFacts.{nodes_within, node_shown, edge_shown, weight_shown, light_fits}
use Rattle.dimacs_text.proofs.Accepted.{ok_value, accepted_text}

-- what holds of what each line stands for holds of the list of these
All-of_lines : {A : Type 0} (P : A → Type 0) (f : List ℕ → A) (lines : List (List ℕ)) → ((k : ℕ) → k < length lines → P (f (get_or lines k []))) → All P (map f lines)
All-of_lines P f lines each = λ k d h.
    let inside : k < length lines = omega (arith, length-map lines f) in
    subst P (sym (get_or-map f lines k [] d inside)) (each k inside)

pub graph_accepted : (text : List ℕ) (g : WeightedGraph) → graph_of_text text ≡ Ok g → IsGraph g.n g.edges × All (λ e. e.w < 2 ^ 64) g.edges
graph_accepted text g is =
    let words : GraphWords = record {} in
    let shown = accepted_text graph_wording Text graph_of_lines words text g is in
    let counts = shown.0 in
    let lines = shown.1 in
    let accepted = shown.2 in
    let n = get_or shown.0 0 0 in
    let graph : WeightedGraph = record { n = get_or shown.0 0 0; edges = map edge_of shown.1 } in
    let small = nodes_within counts accepted.within in
    let light = All-of_lines (λ (e : Edge). e.w < 2 ^ 64) edge_of lines (λ k h. weight_shown n (edge_of (get_or lines k [])) (accepted.faultless k [] h)) in
    subst (λ (h : WeightedGraph). IsGraph h.n h.edges × All (λ e. e.w < 2 ^ 64) h.edges) (ok_value {F = GrFault} graph g shown.3) (
      record {
        small = small;
        edge = All-of_lines (IsEdge n) edge_of lines (λ k h. edge_shown n (edge_of (get_or lines k [])) (accepted.faultless k [] h));
        fits = light_fits n (map edge_of lines) small light;
      },
      light,
    )

ends_shown : (s t : Bool) → cond (s || t) (Some NodeRange) None ≡ None → (s ≡ false) × (t ≡ false)
ends_shown true t is = cc
ends_shown false true is = cc
ends_shown false false is = (refl, refl)

pair_shown : (n : ℕ) (counts numbers : List ℕ) → pair_fault n counts numbers ≡ None → (1 ≤ get_or numbers 0 0) × (get_or numbers 0 0 ≤ n) × (1 ≤ get_or numbers 1 0) × (get_or numbers 1 0 ≤ n)
pair_shown n counts numbers faultless =
    let tests = ends_shown (is_outside n (get_or numbers 0 0)) (is_outside n (get_or numbers 1 0)) faultless in
    let s = node_shown n (get_or numbers 0 0) tests.0 in
    let t = node_shown n (get_or numbers 1 0) tests.1 in
    (s.0, s.1, t.0, t.1)

pub pairs_accepted : (n : ℕ) (text : List ℕ) (pairs : List (ℕ × ℕ)) → pairs_of_text n text ≡ Ok pairs → All (λ p. (1 ≤ p.0) × (p.0 ≤ n) × (1 ≤ p.1) × (p.1 ≤ n)) pairs
pairs_accepted n text pairs is =
    let words : PairsWords = record { n = n } in
    let shown = accepted_text pairs_wording pairs_fault.Text pairs_of_lines words text pairs is in
    let counts = shown.0 in
    let lines = shown.1 in
    let accepted = shown.2 in
    let same : map pair_of shown.1 ≡ pairs = ok_value {F = PairsFault} (map pair_of shown.1) pairs shown.3 in
    subst (λ (ps : List (ℕ × ℕ)). All (λ p. (1 ≤ p.0) × (p.0 ≤ n) × (1 ≤ p.1) × (p.1 ≤ n)) ps) same
    (All-of_lines (λ (p : ℕ × ℕ). (1 ≤ p.0) × (p.0 ≤ n) × (1 ≤ p.1) × (p.1 ≤ n)) pair_of lines (λ k h. pair_shown n counts (get_or lines k []) (accepted.faultless k [] h)))

pub edits_accepted : (n : ℕ) (text : List ℕ) (edits : List Edge) → edits_of_text n text ≡ Ok edits → All (IsEdge n) edits × All (λ e. e.w < 2 ^ 64) edits
edits_accepted n text edits is =
    let words : EditsWords = record { n = n } in
    let shown = accepted_text edits_wording pairs_fault.Text edits_of_lines words text edits is in
    let lines = shown.1 in
    let accepted = shown.2 in
    subst (λ (es : List Edge). All (IsEdge n) es × All (λ e. e.w < 2 ^ 64) es) (ok_value {F = PairsFault} (map edge_of shown.1) edits shown.3) (
      All-of_lines (IsEdge n) edge_of lines (λ k h. edge_shown n (edge_of (get_or lines k [])) (accepted.faultless k [] h)),
      All-of_lines (λ (e : Edge). e.w < 2 ^ 64) edge_of lines (λ k h. weight_shown n (edge_of (get_or lines k [])) (accepted.faultless k [] h)),
    )

greatest_weight-append : (edges more : List Edge) → greatest_weight (edges ++ more) ≡ max (greatest_weight edges) (greatest_weight more)
greatest_weight-append [] more = omega arith
greatest_weight-append (e ∷ edges) more = omega (arith, greatest_weight-append edges more)

-- where no walk along either edges is too long, none along both is
fits_both : (n a b : ℕ) → n * a < 2 ^ 94 → n * b < 2 ^ 94 → n * max a b < 2 ^ 94
fits_both n a b first second = elim (leb_tells a b) [
  | inl below ↦ let is : max a b ≡ b = omega (arith, below.1) in rw is second
  | inr above ↦ let is : max a b ≡ a = omega (arith, above.1) in rw is first
]

pub edited_graph : (n : ℕ) (text : List ℕ) (edges edits : List Edge) → edits_of_text n text ≡ Ok edits → IsGraph n edges → IsGraph n (edges ++ edits)
edited_graph n text edges edits is graph =
    let shown = edits_accepted n text edits is in
    record {
      small = graph.small;
      edge = All-append (IsEdge n) edges edits graph.edge shown.0;
      fits = rw (greatest_weight-append edges edits) (fits_both n (greatest_weight edges) (greatest_weight edits) graph.fits (light_fits n edits graph.small shown.1));
    }
