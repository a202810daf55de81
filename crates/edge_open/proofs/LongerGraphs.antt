-- A graph with edges appended to its list is a graph.
use Rattle.std.proofs.Common.{◌≡◌, ◌⊎◌, ℕ, ◌-◌, ◌*◌, ◌^◌, ◌<◌, ◌≤◌, List, [], ◌∷◌, ◌++◌, All, refl, sym, subst, inl, inr, arith}
use Rattle.std.proofs.Math.Nat.{mul-le-mul_left, mul-le-mul_right}
use Rattle.std.proofs.lemmas.Bool.{cases_lt}
use Rattle.std.proofs.lemmas.List.Elements.{All-append, All-head, All-tail, All-weaker}
use Rattle.walk_laws.specs.declared.graph.Edge.{Edge}
use Rattle.walk_laws.specs.Graph.{IsEdge, IsGraph, greatest_weight}

-- no edge of either list is heavier than this
greatest_of_both : (edges others : List Edge) (heavy : ℕ) → greatest_weight edges ≤ heavy → All (λ (e : Edge). e.w ≤ heavy) others → greatest_weight (edges ++ others) ≤ heavy
greatest_of_both [] [] heavy first second = omega arith
greatest_of_both [] (e ∷ others) heavy first second = let rest = greatest_of_both [] others heavy first (All-tail (λ (e : Edge). e.w ≤ heavy) e others second) in let this = All-head (λ (e : Edge). e.w ≤ heavy) e others second in omega arith
greatest_of_both (e ∷ edges) others heavy first second = let rest = greatest_of_both edges others heavy (omega arith) second in omega arith

-- where there are few nodes, and no edge of either list is heavy
fits_both : (n gw : ℕ) → n ≤ 2 ^ 30 → n * gw < 2 ^ 94 → (heavy : ℕ) → (heavy ≡ gw) ⊎ (heavy ≡ 2 ^ 64 - 1) → n * heavy < 2 ^ 94
fits_both n gw small fits heavy is = elim is [
  | inl same ↦ subst (λ w. n * w < 2 ^ 94) (sym same) fits
  | inr light ↦ let bound : n * heavy ≤ 2 ^ 30 * heavy = mul-le-mul_right heavy small in omega arith
]

-- a graph and edges between its nodes, of weights below 2^64, make a graph
pub IsGraph-append : (n : ℕ) (edges others : List Edge) → IsGraph n edges → All (IsEdge n) others → All (λ (e : Edge). e.w < 2 ^ 64) others → IsGraph n (edges ++ others)
IsGraph-append n edges others graph ends light = record {
  small = graph.small;
  edge = All-append (IsEdge n) edges others graph.edge ends;
  fits = elim (cases_lt (greatest_weight edges) (2 ^ 64)) [
    | inl both_light ↦
        let heavy : greatest_weight (edges ++ others) ≤ 2 ^ 64 - 1 = greatest_of_both edges others (2 ^ 64 - 1) (omega arith) (All-weaker (λ (e : Edge). e.w < 2 ^ 64) (λ (e : Edge). e.w ≤ 2 ^ 64 - 1) (λ e h. omega arith) others light) in
        omega (arith, mul-le-mul_left n heavy, fits_both n (greatest_weight edges) graph.small graph.fits (2 ^ 64 - 1) (inr refl))
    | inr first_heavy ↦
        let heavy : greatest_weight (edges ++ others) ≤ greatest_weight edges = greatest_of_both edges others (greatest_weight edges) (omega arith) (All-weaker (λ (e : Edge). e.w < 2 ^ 64) (λ (e : Edge). e.w ≤ greatest_weight edges) (λ e h. omega arith) others light) in
        omega (arith, mul-le-mul_left n heavy, graph.fits)
  ];
}
