-- Each graph has a ranking by degree, and only one.
use Rattle.std.proofs.Common.{◌≡◌, ◌≢◌, ℕ, zero, suc, ◌+◌, ◌<◌, ◌≤◌, List, [], ◌∷◌, length, get_or, refl, sym, ap, ◌∙◌, arith, inl, inr, subst, Contains}
use Rattle.std.specs.List.{All, AllByRecursion, range_with_len}
use Rattle.std.specs.List.Sorted.{IsPermutation, IsStrictlySortedBy}
use Rattle.std.specs.BTreeSet.{insert_key}
use Rattle.std.specs.Ordering.{nat_cmp, ordering_then, match_ordering, ordering_reverse}
use Rattle.std.specs.declared.cmp.Ordering.{Ordering}
use Rattle.std.specs.declared.cmp.Ordering.TheVariants.{Less, Equal, Greater}
use Rattle.std.proofs.lemmas.Bool.Decides.{nat_tests}
use Rattle.std.proofs.lemmas.List.Elements.{recursion_from_All}
use Rattle.std.proofs.lemmas.List.FromFn.{length-range_with_len, get_or-range_with_len}
use Rattle.std.proofs.lemmas.List.Sorted.{All-permutation, IsPermutation-refl, IsPermutation-cons, IsPermutation-trans, IsPermutation-middle, IsPermutation-sym}
use Rattle.walk_laws.specs.declared.graph.Edge.{Edge}
use Rattle.walk_laws.specs.Graph.{WeightedGraph}
use Rattle.walk_laws.specs.Ranking.{IsRanking, position_of}
use Rattle.walk_laws.proofs.Members.{Contains-first, Contains-next, Contains-cons_cases, Contains-empty}
use Rattle.walk_laws.proofs.Positions.{position-lt, get_or-position}
use Rattle.rank_table.specs.ByDegree.{degree, compare_by_degree, IsByDegree}
use Rattle.rank_table.proofs.DegreeOrder.{compare_total, ranking_from_range}

module _ (edges : List Edge) where
  abbrev before : ℕ → ℕ → Ordering
  before = compare_by_degree edges

  abbrev AllAfter : ℕ → List ℕ → Type 0
  AllAfter x = AllByRecursion (λ y. before x y ≡ Less)

  -- ---- there is one

  -- the numbers a, a + 1, .., n of them, each put at its place
  abbrev ordered : ℕ → ℕ → List ℕ
  ordered a zero = []
  ordered a (suc n) = insert_key before (ordered (a + 1) n) a

  further : (k x : ℕ) (ks : List ℕ) → before k x ≡ Less → AllAfter x ks → AllAfter k ks
  further k x [] less all = tt
  further k x (y ∷ ks) less all = ((compare_total edges).trans k x y less all.0, further k x ks less all.1)

  put_after : (x k : ℕ) (ks : List ℕ) → before x k ≡ Less → AllAfter x ks → AllAfter x (insert_key before ks k)
  put_after x k [] less all = (less, tt)
  put_after x k (y ∷ ks) less all =
      elim (before k y) as (λ o. AllAfter x (match_ordering o (k ∷ y ∷ ks) (y ∷ ks) (y ∷ insert_key before ks k))) [
        | Less ↦ (less, all)
        | Equal ↦ all
        | Greater ↦ (all.0, put_after x k ks less all.1)
      ]

  put_sorted : (k : ℕ) (ks : List ℕ) → IsStrictlySortedBy before ks → IsStrictlySortedBy before (insert_key before ks k)
  unfolding IsStrictlySortedBy
  put_sorted k [] sorted = (tt, tt)
  put_sorted k (x ∷ ks) sorted =
      elim (before k x) as (λ o. before k x ≡ o → IsStrictlySortedBy before (match_ordering o (k ∷ x ∷ ks) (x ∷ ks) (x ∷ insert_key before ks k))) [
        | Less ↦ λ is. ((is, further k x ks is sorted.0), sorted)
        | Equal ↦ λ is. sorted
        | Greater ↦ λ is. (put_after x k ks ((compare_total edges).antisymm x k ∙ ap ordering_reverse is) sorted.0, put_sorted k ks sorted.1)
      ] refl

  put_moved : (k : ℕ) (ks : List ℕ) → AllByRecursion (λ y. before k y ≢ Equal) ks → IsPermutation (k ∷ ks) (insert_key before ks k)
  put_moved k [] apart = IsPermutation-refl (k ∷ [])
  put_moved k (x ∷ ks) apart =
      elim (before k x) as (λ o. before k x ≡ o → IsPermutation (k ∷ x ∷ ks) (match_ordering o (k ∷ x ∷ ks) (x ∷ ks) (x ∷ insert_key before ks k))) [
        | Less ↦ λ is. IsPermutation-refl (k ∷ x ∷ ks)
        | Equal ↦ λ is. absurd (apart.0 is)
        | Greater ↦ λ is. IsPermutation-trans (k ∷ x ∷ ks) (x ∷ k ∷ ks) (x ∷ insert_key before ks k) (IsPermutation-sym (x ∷ k ∷ ks) (k ∷ x ∷ ks) (IsPermutation-middle (x ∷ []) k ks)) (IsPermutation-cons x (k ∷ ks) (insert_key before ks k) (put_moved k ks apart.1))
      ] refl

  tied_same : (d e x y : ℕ) → ordering_then (nat_cmp d e) (nat_cmp x y) ≡ Equal → x ≡ y
  tied_same d e x y is = grind (arith, nat_tests)

  ordered_sorted : (a n : ℕ) → IsStrictlySortedBy before (ordered a n)
  unfolding IsStrictlySortedBy
  ordered_sorted a zero = tt
  ordered_sorted a (suc n) = put_sorted a (ordered (a + 1) n) (ordered_sorted (a + 1) n)

  ordered_moved : (a n : ℕ) → IsPermutation (range_with_len a n) (ordered a n)
  ordered_moved a zero = IsPermutation-refl []
  ordered_moved a (suc n) =
      let rest = ordered_moved (a + 1) n in
      let later : All (λ y. a < y) (range_with_len (a + 1) n) = λ i d lt. omega (arith, get_or-range_with_len (a + 1) n i d (omega (arith, length-range_with_len (a + 1) n))) in
      let apart : All (λ y. before a y ≢ Equal) (ordered (a + 1) n) = λ i d lt tied. absurd (omega (arith, tied_same (degree edges (get_or (ordered (a + 1) n) i d)) (degree edges a) a (get_or (ordered (a + 1) n) i d) tied, All-permutation (λ y. a < y) (range_with_len (a + 1) n) (ordered (a + 1) n) rest later i d lt)) in
      IsPermutation-trans (a ∷ range_with_len (a + 1) n) (a ∷ ordered (a + 1) n) (insert_key before (ordered (a + 1) n) a) (IsPermutation-cons a (range_with_len (a + 1) n) (ordered (a + 1) n) rest) (put_moved a (ordered (a + 1) n) (recursion_from_All (λ y. before a y ≢ Equal) (ordered (a + 1) n) apart))

  -- ---- there is no other

  after_first : (x e : ℕ) (xs : List ℕ) → AllAfter x xs → Contains xs e → before x e ≡ Less
  after_first x e [] all among = absurd (Contains-empty e among)
  after_first x e (y ∷ xs) all among =
      elim (Contains-cons_cases y e xs among) [ inl same ↦ subst (λ z. before x z ≡ Less) same all.0 | inr later ↦ after_first x e xs all.1 later ]

  not_both : (x y : ℕ) → before x y ≡ Less → before y x ≡ Less → ⊥
  not_both x y one other = let back : before x y ≡ ordering_reverse (before y x) = (compare_total edges).antisymm x y in let greater : ordering_reverse (before y x) ≡ Greater = ap ordering_reverse other in cc

  first_of_both : (x y : ℕ) (xs ys : List ℕ) → AllAfter x xs → AllAfter y ys → Contains (y ∷ ys) x → Contains (x ∷ xs) y → x ≡ y
  first_of_both x y xs ys up others_up there back =
      elim (Contains-cons_cases y x ys there) [
        | inl same ↦ sym same
        | inr later ↦ elim (Contains-cons_cases x y xs back) [
          | inl same ↦ same
          | inr too ↦ absurd (not_both x y (after_first x y xs up too) (after_first y x ys others_up later))
        ]
      ]

  still_there : (x y e : ℕ) (xs ys : List ℕ) → x ≡ y → AllAfter x xs → Contains xs e → Contains (y ∷ ys) e → Contains ys e
  still_there x y e xs ys same up here there =
      elim (Contains-cons_cases y e ys there) [
        | inl first ↦ let less : before x e ≡ Less = after_first x e xs up here in let itself : before x x ≡ Less = subst (λ z. before x z ≡ Less) (sym (same ∙ first)) less in absurd (not_both x x itself itself)
        | inr later ↦ later
      ]

  same_sorted : (xs ys : List ℕ) → IsStrictlySortedBy before xs → IsStrictlySortedBy before ys → ((e : ℕ) → Contains xs e → Contains ys e) → ((e : ℕ) → Contains ys e → Contains xs e) → xs ≡ ys
  unfolding IsStrictlySortedBy
  same_sorted [] [] up others_up there back = refl
  same_sorted [] (y ∷ ys) up others_up there back = absurd (Contains-empty y (back y (Contains-first y ys)))
  same_sorted (x ∷ xs) [] up others_up there back = absurd (Contains-empty x (there x (Contains-first x xs)))
  same_sorted (x ∷ xs) (y ∷ ys) up others_up there back =
      let same = first_of_both x y xs ys up.0 others_up.0 (there x (Contains-first x xs)) (back y (Contains-first y ys)) in
      let rest = same_sorted xs ys up.1 others_up.1 (λ e h. still_there x y e xs ys same up.0 h (there e (Contains-next x e xs h))) (λ e h. still_there y x e ys xs (sym same) others_up.0 h (back e (Contains-next y e ys h))) in
      cc

-- each node stands in a ranking, and nothing else
among_others : (at others : List ℕ) (e : ℕ) → IsRanking at → IsRanking others → length at ≡ length others → Contains at e → Contains others e
among_others at others e ranks others_rank long among =
    let node : (1 ≤ get_or at among.0 e) × (get_or at among.0 e ≤ length at) = ranks.node among.0 e among.1 in
    let place : position_of others e < length others = position-lt others e others_rank (omega (arith, node.0, among.2)) (omega (arith, node.1, among.2)) in
    (position_of others e, place, get_or-position others e e place)

pub ranked_by_degree : (graph : WeightedGraph) → (at : List ℕ) × IsByDegree graph at
ranked_by_degree graph =
    let at = ordered graph.edges 1 graph.n in
    let ranks = ranking_from_range graph.n at (ordered_moved graph.edges 1 graph.n) in
    (at, record { ranking = ranks.0; all = ranks.1; falling = ordered_sorted graph.edges 1 graph.n })

pub IsByDegree-unique : (graph : WeightedGraph) (at others : List ℕ) → IsByDegree graph at → IsByDegree graph others → at ≡ others
IsByDegree-unique graph at others one other =
    let long : length at ≡ length others = one.all ∙ sym other.all in
    same_sorted graph.edges at others one.falling other.falling (λ e. among_others at others e one.ranking other.ranking long) (λ e. among_others others at e other.ranking one.ranking (sym long))
