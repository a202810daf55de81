-- The ranking by degree: what a sort by degree and node gives is one, one exists, and there is no other.
use Rattle.std.proofs.Common.{◌≡◌, ℕ, zero, suc, ◌+◌, ◌<◌, ◌≤◌, Bool, true, false, eqb, ltb, List, [], ◌∷◌, length, map, get_or, refl, ap, ◌∙◌, arith, inl, inr, subst}
use Rattle.std.specs.List.{All, AllByRecursion, IsDistinct, range_with_len}
use Rattle.std.specs.List.Sorted.{IsPermutation, IsSortedBy, IsStableBy, ties}
use Rattle.std.specs.Ordering.{nat_cmp, ordering_then, is_lt}
use Rattle.std.specs.declared.cmp.Ordering.TheVariants.{Less}
use Rattle.std.specs.Cmp.{IsTotalOrder, IsStrictWeakOrder}
use Rattle.std.proofs.lemmas.Bool.{cases_eq}
use Rattle.std.proofs.lemmas.Bool.Decides.{nat_tests, eqb_tells}
use Rattle.std.proofs.lemmas.Cmp.{then_total, on_total, back_total, nat_cmp_total, nat_eq_equiv}
use Rattle.std.proofs.lemmas.List.{get_or-map, length-map}
use Rattle.std.proofs.lemmas.List.FromFn.{length-range_with_len, get_or-range_with_len}
use Rattle.std.proofs.lemmas.List.Sorted.{length_permutation, IsPermutation-map, All-permutation, ranks_by, ties_stay_sorted, IsStrictWeakOrder-by_number}
use Rattle.std.proofs.lemmas.Map.Keys.{IsDistinct-IsPermutation, apart_from_distinct, sorted_from_all_adjacent}
use Rattle.walk_laws.specs.declared.graph.Edge.{Edge}
use Rattle.walk_laws.specs.Graph.{WeightedGraph}
use Rattle.walk_laws.specs.Ranking.{IsRanking}
use Rattle.rank_table.specs.declared.degrees.DegreeOf.{DegreeOf}
use Rattle.rank_table.specs.ByDegree.{degree, compare_by_degree, IsByDegree}

pub compare_total : (edges : List Edge) → IsTotalOrder (compare_by_degree edges)
compare_total edges = then_total (back_total (on_total (degree edges) nat_cmp_total)) nat_cmp_total

-- ---- the numbers 1..n

later_differ : (a b n : ℕ) → a < b → AllByRecursion (λ y. eqb a y ≡ false) (range_with_len b n)
later_differ a b zero less = tt
later_differ a b (suc n) less = (elim (eqb_tells a b) [ inl same ↦ absurd (omega (arith, same.1)) | inr apart ↦ apart.0 ], later_differ a (b + 1) n (omega arith))

range_distinct : (a n : ℕ) → IsDistinct eqb (range_with_len a n)
unfolding IsDistinct
range_distinct a zero = tt
range_distinct a (suc n) = (later_differ a (a + 1) n (omega arith), range_distinct (a + 1) n)

range_nodes : (n : ℕ) → All (λ v. (1 ≤ v) × (v ≤ n)) (range_with_len 1 n)
range_nodes n i d lt =
    let within : i < n = omega (arith, length-range_with_len 1 n) in
    let is = get_or-range_with_len 1 n i d within in
    (omega (arith, is), omega (arith, is))

-- the numbers 1..n in any order are a ranking
pub ranking_from_range : (n : ℕ) (at : List ℕ) → IsPermutation (range_with_len 1 n) at → IsRanking at × (length at ≡ n)
ranking_from_range n at moved =
    let all : length at ≡ n = length_permutation (range_with_len 1 n) at moved ∙ length-range_with_len 1 n in (
      record {
        node = λ k d h. let fits : (1 ≤ get_or at k d) × (get_or at k d ≤ n) = All-permutation (λ v. (1 ≤ v) × (v ≤ n)) (range_with_len 1 n) at moved (range_nodes n) k d h in (fits.0, omega (arith, fits.1, all));
        once = IsDistinct-IsPermutation eqb nat_eq_equiv.symm (range_with_len 1 n) at moved (range_distinct 1 n);
      },
      all,
    )

-- ---- a sort by degree and node

abbrev degree_at : List Edge → ℕ → DegreeOf
degree_at edges v = record { node = v; degree = degree edges v }

-- by falling degree, and where degrees are the same by rising node
abbrev pub key_before : DegreeOf → DegreeOf → Bool
key_before x y = is_lt (ordering_then (nat_cmp y.degree x.degree) (nat_cmp x.node y.node))

pub key_order : IsStrictWeakOrder key_before
key_order =
    ranks_by (then_total (back_total (on_total (λ (d : DegreeOf). d.degree) nat_cmp_total)) (on_total (λ (d : DegreeOf). d.node) nat_cmp_total)) (λ (d : DegreeOf). d)

-- the order of the sort, and that in which the nodes stand before it
abbrev pub degree_before : DegreeOf → DegreeOf → Bool
degree_before x y = is_lt (nat_cmp y.degree x.degree)

pub degree_order : IsStrictWeakOrder degree_before
degree_order = ranks_by (back_total (on_total (λ (d : DegreeOf). d.degree) nat_cmp_total)) (λ (d : DegreeOf). d)

abbrev node_before : DegreeOf → DegreeOf → Bool
node_before x y = ltb x.node y.node

nodes_rise : (edges : List Edge) (n : ℕ) → IsSortedBy node_before (map (degree_at edges) (range_with_len 1 n))
nodes_rise edges n k d low high =
    let vs = range_with_len 1 n in
    let long = length-map vs (degree_at edges) in
    let many = length-range_with_len 1 n in
    let first : (get_or (map (degree_at edges) vs) k d).node ≡ 1 + k = ap (λ (x : DegreeOf). x.node) (get_or-map (degree_at edges) vs k 0 d (omega arith)) ∙ get_or-range_with_len 1 n k 0 (omega arith) in
    let second : (get_or (map (degree_at edges) vs) (k + 1) d).node ≡ 1 + (k + 1) = ap (λ (x : DegreeOf). x.node) (get_or-map (degree_at edges) vs (k + 1) 0 d (omega arith)) ∙ get_or-range_with_len 1 n (k + 1) 0 (omega arith) in
    rw (first, second) (grind (arith, nat_tests))

tie_degrees : (x y : DegreeOf) → x.degree ≡ y.degree → ties degree_before x y ≡ true
tie_degrees x y same = grind (arith, nat_tests)

not_before : (dx dy x y : ℕ) → is_lt (nat_cmp dx dy) ≡ false → (dx ≡ dy → ltb y x ≡ false) → is_lt (ordering_then (nat_cmp dx dy) (nat_cmp y x)) ≡ false
not_before dx dy x y falls rises =
    elim (cases_eq dx dy) [
      | inl same ↦ let up = rises same in grind (arith, nat_tests)
      | inr other ↦ grind (arith, nat_tests)
    ]

-- a stable sort by degree of the nodes by rising number is a sort by degree and node
pub key_sorted : (edges : List Edge) (n : ℕ) (degrees : List DegreeOf) → IsSortedBy degree_before degrees → IsStableBy degree_before (map (degree_at edges) (range_with_len 1 n)) degrees → IsSortedBy key_before degrees
key_sorted edges n degrees sorted stable k d low high =
    let x = get_or degrees k d in
    let y = get_or degrees (k + 1) d in
    not_before x.degree y.degree x.node y.node (sorted k d low high)
    (λ same. ties_stay_sorted node_before degree_before (IsStrictWeakOrder-by_number (λ (e : DegreeOf). e.node)) degree_order (map (degree_at edges) (range_with_len 1 n)) degrees (nodes_rise edges n) stable k d (omega arith) (tie_degrees x y same))

comes_first : (dx dy x y : ℕ) → is_lt (ordering_then (nat_cmp dx dy) (nat_cmp y x)) ≡ false → eqb x y ≡ false → ordering_then (nat_cmp dy dx) (nat_cmp x y) ≡ Less
comes_first dx dy x y sorted apart = grind (arith, nat_tests)

degrees_right : (edges : List Edge) (vs : List ℕ) → All (λ (d : DegreeOf). d.degree ≡ degree edges d.node) (map (degree_at edges) vs)
degrees_right edges vs i d lt = rw (get_or-map (degree_at edges) vs i 0 d (omega (arith, length-map vs (degree_at edges)))) refl

nodes_back : (edges : List Edge) (vs : List ℕ) → map (λ (d : DegreeOf). d.node) (map (degree_at edges) vs) ≡ vs
nodes_back edges [] = refl
nodes_back edges (v ∷ vs) = ap (λ l. v ∷ l) (nodes_back edges vs)

pub IsByDegree-sorted : (graph : WeightedGraph) (degrees : List DegreeOf) → IsPermutation (map (degree_at graph.edges) (range_with_len 1 graph.n)) degrees → IsSortedBy key_before degrees → IsByDegree graph (map (λ (d : DegreeOf). d.node) degrees)
IsByDegree-sorted graph degrees moved sorted =
    let nodes : List ℕ = map (λ (d : DegreeOf). d.node) degrees in
    let moved_nodes : IsPermutation (range_with_len 1 graph.n) nodes = subst (λ l. IsPermutation l nodes) (nodes_back graph.edges (range_with_len 1 graph.n)) (IsPermutation-map (λ (d : DegreeOf). d.node) (map (degree_at graph.edges) (range_with_len 1 graph.n)) degrees moved) in
    let ranks = ranking_from_range graph.n nodes moved_nodes in
    record {
      ranking = ranks.0;
      all = ranks.1;
      falling = sorted_from_all_adjacent (compare_total graph.edges) nodes 0 (before ranks.0);
    }
  where
    nowhere : DegreeOf
    nowhere = record { node = 0; degree = 0 }

    right : All (λ (d : DegreeOf). d.degree ≡ degree graph.edges d.node) degrees
    right = All-permutation (λ (d : DegreeOf). d.degree ≡ degree graph.edges d.node) (map (degree_at graph.edges) (range_with_len 1 graph.n)) degrees moved (degrees_right graph.edges (range_with_len 1 graph.n))

    before : IsRanking (map (λ (d : DegreeOf). d.node) degrees) → (k : ℕ) → k + 1 < length (map (λ (d : DegreeOf). d.node) degrees) → compare_by_degree graph.edges (get_or (map (λ (d : DegreeOf). d.node) degrees) k 0) (get_or (map (λ (d : DegreeOf). d.node) degrees) (k + 1) 0) ≡ Less
    before ranks k lt =
        let long = length-map degrees (λ (d : DegreeOf). d.node) in
        let x = get_or degrees k nowhere in
        let y = get_or degrees (k + 1) nowhere in
        let x_is : get_or (map (λ (d : DegreeOf). d.node) degrees) k 0 ≡ x.node = get_or-map (λ (d : DegreeOf). d.node) degrees k nowhere 0 (omega arith) in
        let y_is : get_or (map (λ (d : DegreeOf). d.node) degrees) (k + 1) 0 ≡ y.node = get_or-map (λ (d : DegreeOf). d.node) degrees (k + 1) nowhere 0 (omega arith) in
        let apart : eqb (get_or (map (λ (d : DegreeOf). d.node) degrees) k 0) (get_or (map (λ (d : DegreeOf). d.node) degrees) (k + 1) 0) ≡ false = apart_from_distinct eqb (map (λ (d : DegreeOf). d.node) degrees) k (k + 1) 0 ranks.once (omega arith) lt in
        let apart_too : eqb x.node y.node ≡ false = rw (x_is, y_is) at apart in
        let x_right : x.degree ≡ degree graph.edges x.node = right k nowhere (omega arith) in
        let y_right : y.degree ≡ degree graph.edges y.node = right (k + 1) nowhere (omega arith) in
        let up = sorted k nowhere (omega arith) (omega arith) in
        let is : compare_by_degree graph.edges x.node y.node ≡ Less = rw (← x_right, ← y_right) (comes_first x.degree y.degree x.node y.node up apart_too) in
        rw (x_is, y_is) is
