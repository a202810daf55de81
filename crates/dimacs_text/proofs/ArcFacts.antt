-- The numbers of an arc without fault are an edge.
use Rattle.std.proofs.Common.{◌≡◌, ◌≢◌, inl, inr, ℕ, suc, ◌-◌, ◌*◌, ◌^◌, ◌<◌, ◌≤◌, Bool, true, false, cond, min, eqb, leb, ltb, All, List, [], ◌∷◌, map, length, get_or, Some, None, refl, ap, sym, ◌∙◌, arith}
use Rattle.std.specs.Prelude.{◌&&◌, ◌||◌}
use Rattle.std.proofs.lemmas.Bool.{le-ltb, leb-true, ltb-false, false≢true}
use Rattle.std.proofs.lemmas.Bool.Decides.{eqb_tells}
use Rattle.std.proofs.lemmas.List.{length-map, get_or-map}
use Rattle.std.proofs.Math.Nat.{mul-le-mul}
use Rattle.walk_laws.specs.declared.graph.Edge.{Edge}
use Rattle.walk_laws.specs.Graph.{IsEdge, IsGraph, greatest_weight}
use Rattle.dimacs_text.specs.Counted.{AreAccepted, are_within, is_outside, kept}
use Rattle.dimacs_text.specs.Arcs.{arc_fault, arc_numbers, edge_of}
use Rattle.dimacs_text.specs.GraphText.{graph_wording}
use Rattle.dimacs_text.specs.declared.fault.TextKind.TheVariants.{NodeRange, ZeroWeight, WeightRange}
use Rattle.dimacs_text.specs.declared.graph_words.GraphWords.{GraphWords}
use Rattle.dimacs_text.proofs.CountsKept.{least}

both_false : (a b : Bool) → (a || b) ≡ false → (a ≡ false) × (b ≡ false)
both_false true b is = cc
both_false false b is = (refl, is)

differs : (a b : ℕ) → eqb a b ≡ false → a ≢ b
differs a b is same = elim (eqb_tells a b) [ inl equal ↦ false≢true (sym is ∙ equal.0) | inr differ ↦ differ.1 same ]

-- a number that isn't outside is a node
pub node_shown : (n v : ℕ) → is_outside n v ≡ false → (1 ≤ v) × (v ≤ n)
node_shown n v inside =
    let tests = both_false (eqb v 0) (ltb n v) inside in
    let some : v ≢ 0 = differs v 0 tests.0 in
    (omega arith, ltb-false n v tests.1)

-- the number of nodes of an accepted `p` line
pub nodes_within : (counts : List ℕ) → are_within ((2 ^ 30) ∷ (2 ^ 32 - 1) ∷ []) counts ≡ true → get_or counts 0 0 ≤ 2 ^ 30
nodes_within [] within = omega arith
nodes_within (n ∷ counts) within = leb-true n (2 ^ 30) (first (leb n (2 ^ 30)) (are_within ((2 ^ 32 - 1) ∷ []) counts) within)
  where
    first : (a b : Bool) → (a && b) ≡ true → a ≡ true
    first true b is = refl
    first false b is = is

-- a node is kept as it is
pub node_kept : (n x : ℕ) → n < 2 ^ 64 → is_outside n (min x (2 ^ 64)) ≡ false → min x (2 ^ 64) ≡ x
node_kept n x small inside = least x n small (node_shown n (min x (2 ^ 64)) inside).1

-- four tests that fail, and a fault of none
pub no_fault : (u v zero above : Bool) → u ≡ false → v ≡ false → zero ≡ false → above ≡ false → cond (u || v) (Some NodeRange) (cond zero (Some ZeroWeight) (cond above (Some WeightRange) None)) ≡ None
no_fault u v zero above is_u is_v is_zero is_above = rw (is_u, is_v, is_zero, is_above) refl

tests_shown : (u v zero above : Bool) → cond (u || v) (Some NodeRange) (cond zero (Some ZeroWeight) (cond above (Some WeightRange) None)) ≡ None → (u ≡ false) × (v ≡ false) × (zero ≡ false) × (above ≡ false)
tests_shown true v zero above is = cc
tests_shown false true zero above is = cc
tests_shown false false true above is = cc
tests_shown false false false true is = cc
tests_shown false false false false is = (refl, refl, refl, refl)

pub apart : (a b : ℕ) → a ≢ b → eqb a b ≡ false
apart a b differ = elim (eqb_tells a b) [ inl equal ↦ absurd (differ equal.1) | inr other ↦ other.0 ]

-- three numbers that have no fault as they are kept have none, and are kept as they are
pub arc_taken : (n : ℕ) (values numbers : List ℕ) → n < 2 ^ 64 → numbers ≡ kept values → length numbers ≡ 3 → is_outside n (get_or numbers 0 0) ≡ false → is_outside n (get_or numbers 1 0) ≡ false → get_or numbers 2 0 ≢ 0 → get_or numbers 2 0 ≤ 2 ^ 64 - 1 → (arc_fault n values ≡ None) × (get_or numbers 0 0 ∷ get_or numbers 1 0 ∷ get_or numbers 2 0 ∷ [] ≡ values)
arc_taken n [] numbers low is size u v w_some w_low = absurd (omega (arith, ap length is))
arc_taken n (x ∷ []) numbers low is size u v w_some w_low = absurd (omega (arith, ap length is))
arc_taken n (x ∷ y ∷ []) numbers low is size u v w_some w_low = absurd (omega (arith, ap length is))
arc_taken n (x ∷ y ∷ z ∷ []) numbers low is size u v w_some w_low =
    let same_u : get_or numbers 0 0 ≡ x = ap (λ l. get_or l 0 0) is ∙ node_kept n x low (ap (λ l. is_outside n (get_or l 0 0)) (sym is) ∙ u) in
    let same_v : get_or numbers 1 0 ≡ y = ap (λ l. get_or l 1 0) is ∙ node_kept n y low (ap (λ l. is_outside n (get_or l 1 0)) (sym is) ∙ v) in
    let read_w : get_or numbers 2 0 ≡ min z (2 ^ 64) = ap (λ l. get_or l 2 0) is in
    let same_w : get_or numbers 2 0 ≡ z = read_w ∙ least z (2 ^ 64 - 1) (omega arith) (omega arith) in (
      no_fault (is_outside n x) (is_outside n y) (eqb z 0) (ltb (2 ^ 64 - 1) z) (ap (is_outside n) (sym same_u) ∙ u) (ap (is_outside n) (sym same_v) ∙ v) (apart z 0 (λ zero. w_some (same_w ∙ zero))) (le-ltb _ _ (omega arith)),
      λ i. same_u i ∷ same_v i ∷ same_w i ∷ [],
    )
arc_taken n (x ∷ y ∷ z ∷ t ∷ values) numbers low is size u v w_some w_low = absurd (omega (arith, ap length is))

-- an arc without fault is an edge
pub edge_shown : (n : ℕ) (e : Edge) → arc_fault n (arc_numbers e) ≡ None → IsEdge n e
edge_shown n e faultless =
    let tests = tests_shown (is_outside n e.u) (is_outside n e.v) (eqb e.w 0) (ltb (2 ^ 64 - 1) e.w) faultless in
    let u = node_shown n e.u tests.0 in
    let v = node_shown n e.v tests.1 in
    let some : e.w ≢ 0 = differs e.w 0 tests.2 in
    record { from_one = u.0; up_to_n = u.1; to_one = v.0; to_n = v.1; weight = omega arith }

pub edges_back : (edges : List Edge) → map edge_of (map arc_numbers edges) ≡ edges
edges_back [] = refl
edges_back (e ∷ edges) = ap (λ es. e ∷ es) (edges_back edges)

-- an arc without fault has a weight below 2^64
pub weight_shown : (n : ℕ) (e : Edge) → arc_fault n (arc_numbers e) ≡ None → e.w < 2 ^ 64
weight_shown n e faultless =
    let tests = tests_shown (is_outside n e.u) (is_outside n e.v) (eqb e.w 0) (ltb (2 ^ 64 - 1) e.w) faultless in
    omega (arith, ltb-false (2 ^ 64 - 1) e.w tests.3)

-- where all weights are below 2^64, so is the greatest
greatest_below : (edges : List Edge) → All (λ (e : Edge). e.w < 2 ^ 64) edges → greatest_weight edges < 2 ^ 64
greatest_below [] light = omega arith
greatest_below (e ∷ edges) light = omega (arith, light 0 e (omega arith), greatest_below edges (λ k d h. light (suc k) d (omega arith)))

-- and no walk among 2^30 nodes comes to 2^94
pub light_fits : (n : ℕ) (edges : List Edge) → n ≤ 2 ^ 30 → All (λ (e : Edge). e.w < 2 ^ 64) edges → n * greatest_weight edges < 2 ^ 94
light_fits n edges small light =
    let product : n * greatest_weight edges ≤ 2 ^ 30 * (2 ^ 64 - 1) = mul-le-mul {n₁ = n} {m₁ = greatest_weight edges} {n₂ = 2 ^ 30} {m₂ = 2 ^ 64 - 1} small (omega (arith, greatest_below edges light)) in
    omega (arith, product)

-- accepted lines are a graph
pub accepted_graph : (words : GraphWords) (counts : List ℕ) (edges : List Edge) → AreAccepted (graph_wording words) counts (map arc_numbers edges) → IsGraph (get_or counts 0 0) edges
accepted_graph words counts edges accepted =
    let n = get_or counts 0 0 in
    let faultless : (k : ℕ) (d : Edge) → k < length edges → arc_fault (get_or counts 0 0) (arc_numbers (get_or edges k d)) ≡ None = λ k d h.
    sym (ap (arc_fault (get_or counts 0 0)) (get_or-map arc_numbers edges k d (arc_numbers d) h)) ∙ accepted.faultless k (arc_numbers d) (omega (arith, length-map edges arc_numbers)) in
    let small = nodes_within counts accepted.within in
    record {
      small = small;
      edge = λ k d h. edge_shown n (get_or edges k d) (faultless k d h);
      fits = light_fits n edges small (λ k d h. weight_shown n (get_or edges k d) (faultless k d h));
    }
