-- Positions in a ranking: each node has one, and it is the place of the node.
use Rattle.std.proofs.Common.{◌≡◌, ℕ, zero, suc, ◌+◌, ◌<◌, ◌≤◌, inl, inr, Bool, true, false, eqb, cond, List, [], ◌∷◌, length, get_or, refl, sym, ap, ◌∙◌, arith, add-one}
use Rattle.std.specs.Prelude.{◌||◌, Some, slice_get}
use Rattle.std.specs.List.{list_any, AllByRecursion, IsDistinct}
use Rattle.std.proofs.lemmas.Bool.{eqb-true, eq-eqb, cases_lt}
use Rattle.std.proofs.lemmas.Bool.Decides.{eqb_tells}
use Rattle.std.proofs.lemmas.Map.Keys.{apart_from_distinct}
use Rattle.std.proofs.lemmas.Map.Steps.{length-le_from_distinct_below}
use Rattle.std.proofs.lemmas.Option.{slice_get-get_or}
use Rattle.walk_laws.specs.Ranking.{IsRanking, position_of}

-- a test that no element passes, element by element
none_passes : (p : ℕ → Bool) (xs : List ℕ) → list_any p xs ≡ false → AllByRecursion (λ y. p y ≡ false) xs
none_passes p [] e = tt
none_passes p (x ∷ xs) e =
    elim (p x) as (λ b. p x ≡ b → (b || list_any p xs) ≡ false → AllByRecursion (λ y. p y ≡ false) (x ∷ xs)) [
      | true ↦ λ is h. cc
      | false ↦ λ is h. (is, none_passes p xs h)
    ] refl e

-- a node of the list has a position in it
pub position-lt_from_any : (at : List ℕ) (v : ℕ) → list_any (eqb v) at ≡ true → position_of at v < length at
position-lt_from_any [] v e = cc
position-lt_from_any (x ∷ at) v e =
    elim (eqb v x) as (λ b. (b || list_any (eqb v) at) ≡ true → cond b 0 (position_of at v + 1) < length (x ∷ at)) [
      | true ↦ λ h. omega arith
      | false ↦ λ h. let below : position_of at v < length at = position-lt_from_any at v h in omega arith
    ] e

-- the node that stands at its position is itself
pub get_or-position : (at : List ℕ) (v d : ℕ) → position_of at v < length at → get_or at (position_of at v) d ≡ v
get_or-position [] v d h = absurd (omega arith)
get_or-position (x ∷ at) v d h =
    elim (eqb v x) as (λ b. eqb v x ≡ b → cond b 0 (position_of at v + 1) < length (x ∷ at) → get_or (x ∷ at) (cond b 0 (position_of at v + 1)) d ≡ v) [
      | true ↦ λ is _. sym (eqb-true v x is)
      | false ↦ λ is below. rw add-one (get_or-position at v d (omega arith))
    ] refl h

-- two numbers that a test tells apart one way are told apart the other way
eqb-false_sym : (a b : ℕ) → eqb a b ≡ false → eqb b a ≡ false
eqb-false_sym a b e = elim (eqb_tells b a) [ inl same ↦ let t : eqb a b ≡ true = eq-eqb a b (sym same.1) in cc | inr apart ↦ apart.0 ]

-- the position of the node at a place is that place
pub position-get_or : (at : List ℕ) (p d : ℕ) → IsDistinct eqb at → p < length at → position_of at (get_or at p d) ≡ p
unfolding IsDistinct
position-get_or [] p d once h = absurd (omega arith)
position-get_or (x ∷ at) zero d once h = rw (eq-eqb x x refl) refl
position-get_or (x ∷ at) (suc p) d once h =
    let apart : eqb x (get_or at p d) ≡ false = apart_from_distinct eqb (x ∷ at) 0 (suc p) d once (omega arith) h in
    let other : eqb (get_or at p d) x ≡ false = eqb-false_sym x (get_or at p d) apart in
    rw (other, position-get_or at p d once.1 (omega arith)) (add-one p)

-- what stands in a ranking is a node
node_from_any : (at : List ℕ) (q : ℕ) → IsRanking at → list_any (eqb q) at ≡ true → (1 ≤ q) × (q ≤ length at)
node_from_any at q r e =
    let place : position_of at q < length at = position-lt_from_any at q e in
    let is : get_or at (position_of at q) 0 ≡ q = get_or-position at q 0 place in
    rw is at (r.node (position_of at q) 0 place)

-- a node that stood nowhere could be put first, and 0 before it: more distinct numbers than there are up to n
no_node_is_missing : (at : List ℕ) (v : ℕ) → IsRanking at → 1 ≤ v → v ≤ length at → list_any (eqb v) at ≡ false → ⊥
unfolding IsDistinct
no_node_is_missing at v r from_one up_to_n missing =
    let zero_missing : list_any (eqb 0) at ≡ false =
    elim (list_any (eqb 0) at) as (λ b. list_any (eqb 0) at ≡ b → b ≡ false) [
      | true ↦ λ is. let h : (1 ≤ 0) × (0 ≤ length at) = node_from_any at 0 r is in absurd (omega (arith, h.0))
      | false ↦ λ is. refl
    ] refl in
    let apart : eqb 0 v ≡ false = elim (eqb_tells 0 v) [ inl same ↦ absurd (omega (arith, same.1)) | inr differ ↦ differ.0 ] in
    let distinct : IsDistinct eqb (0 ∷ v ∷ at) = ((apart, none_passes (eqb 0) at zero_missing), (none_passes (eqb v) at missing, r.once)) in
    let short : length (0 ∷ v ∷ at) ≤ length at + 1 =
    length-le_from_distinct_below (0 ∷ v ∷ at) (length at + 1) distinct (λ q. below q) in
    absurd (omega arith)
  where
    below : (q : ℕ) → list_any (eqb q) (0 ∷ v ∷ at) ≡ true → q < length at + 1
    below q e = elim (eqb_tells q 0) [
      | inl same ↦ omega (arith, same.1)
      | inr not_zero ↦ elim (eqb_tells q v) [
        | inl same ↦ omega (arith, same.1, up_to_n)
        | inr not_v ↦ let rest : list_any (eqb q) at ≡ true = rw (not_zero.0, not_v.0) at e in omega (arith, (node_from_any at q r rest).1)
      ]
    ]

-- each node has a position
pub position-lt : (at : List ℕ) (v : ℕ) → IsRanking at → 1 ≤ v → v ≤ length at → position_of at v < length at
position-lt at v r from_one up_to_n =
    elim (list_any (eqb v) at) as (λ b. list_any (eqb v) at ≡ b → position_of at v < length at) [
      | true ↦ λ is. position-lt_from_any at v is
      | false ↦ λ is. absurd (no_node_is_missing at v r from_one up_to_n is)
    ] refl

-- what has a position stands there
pub slice_get-at_position : (at : List ℕ) (x : ℕ) → position_of at x < length at → slice_get at (position_of at x) ≡ Some x
slice_get-at_position at x place = slice_get-get_or at (position_of at x) x place ∙ ap Some (get_or-position at x x place)

-- the node at a node's position is the node
pub slice_get-position : (at : List ℕ) (v : ℕ) → IsRanking at → 1 ≤ v → v ≤ length at → slice_get at (position_of at v) ≡ Some v
slice_get-position at v r from_one up_to_n = slice_get-at_position at v (position-lt at v r from_one up_to_n)

-- numbers that are all below a bound rank fewer nodes than the bound
pub length-lt_from_below : (at : List ℕ) (bound : ℕ) → IsRanking at → 0 < bound → ((k : ℕ) → get_or at k 0 < bound) → length at < bound
length-lt_from_below at bound r some below =
    elim (cases_lt 0 (length at)) [
      | inl nonempty ↦
          let place : position_of at (length at) < length at = position-lt at (length at) r nonempty (omega arith) in
          let is : get_or at (position_of at (length at)) 0 ≡ length at = get_or-position at (length at) 0 place in
          omega (arith, is, below (position_of at (length at)))
      | inr empty ↦ omega arith
    ]
