-- Facts and counts over all seats, as the view of one changes and as one comes.
use Rattle.std.proofs.Common.{◌≡◌, ◌≢◌, ℕ, zero, suc, ◌+◌, ◌<◌, ◌≤◌, ⊎_elim, List, [], ◌∷◌, ◌++◌, length, set, get_or, refl, sym, ap, ◌∙◌, subst, arith}
use Rattle.std.specs.List.{sum_by, flat_map}
use Rattle.std.proofs.lemmas.List.Sums.{sum_by-cons, sum_by_push}
use mathlib.Core.Option.{some, some-injective, some-ne-none}
use lib.ListN.{get_elem?}
use Rattle.atomic_table.proofs.Lists.{at_set, at_snoc, set_else}
use Rattle.table_seats.proofs.Counting.{times, times-flat_map}

pub within : {X : Type 0} (xs : List X) (i : ℕ) (x : X) → get_elem? xs i ≡ some x → i < length xs
within [] i x at = absurd (some-ne-none x (sym at))
within (y ∷ ys) zero x at = omega arith
within (y ∷ ys) (suc i) x at = let r = within ys i x at in omega arith

pub at_or : {X : Type 0} (xs : List (List X)) (i : ℕ) (x : List X) → get_elem? xs i ≡ some x → get_or xs i [] ≡ x
at_or [] i x at = absurd (some-ne-none x (sym at))
at_or (y ∷ ys) zero x at = some-injective y x at
at_or (y ∷ ys) (suc i) x at = at_or ys i x at

-- a fact of each place of a list
abbrev pub EachAt : {X : Type 0} → (X → Type 0) → List X → Type 0
EachAt {X} P xs = (i : ℕ) (x : X) → get_elem? xs i ≡ some x → P x

module _ {X : Type 0} (P : X → Type 0) where
  pub Each-one : (x : X) → P x → EachAt P (x ∷ [])
  Each-one x here zero y at = subst P (some-injective x y at) here
  Each-one x here (suc j) y at = absurd (some-ne-none y (sym at))

  module _ (views : List X) where
    pub Each-set : (id : ℕ) (w : X) → EachAt P views → P w → EachAt P (set views id w)
    Each-set id w each here j seat at = ⊎_elim (λ t. subst P t.1 here) (λ t. each j seat t.1) (at_set views id j w seat at)

    pub Each-push : (w : X) → EachAt P views → P w → EachAt P (views ++ w ∷ [])
    Each-push w each here j seat at = ⊎_elim (λ before. each j seat before) (λ last. subst P last here) (at_snoc views w seat j at)

    pub Each-split : (id : ℕ) (kept given : X) → EachAt P views → P kept → P given → EachAt P (set views id kept ++ given ∷ [])
    Each-split id kept given each here there j seat at = ⊎_elim (λ before. Each-set id kept each here j seat before) (λ last. subst P last there) (at_snoc (set views id kept) given seat j at)

    pub Each-join : (id other : ℕ) (both spent : X) → EachAt P views → P both → P spent → EachAt P (set (set views id both) other spent)
    Each-join id other both spent each here there j seat at = ⊎_elim (λ t. subst P t.1 there) (λ t. Each-set id both each here j seat t.1) (at_set (set views id both) other j spent seat at)

module _ {X : Type 0} (f : X → ℕ) where
  pub sum_by-changed : (xs : List X) (i : ℕ) (v w : X) → get_elem? xs i ≡ some v → sum_by f (set xs i w) + f v ≡ sum_by f xs + f w
  sum_by-changed [] i v w at = absurd (some-ne-none v (sym at))
  sum_by-changed (x ∷ xs) zero v w at =
      let is : f x ≡ f v = ap f (some-injective x v at) in
      let a = sum_by-cons f w xs in
      let b = sum_by-cons f x xs in
      omega arith
  sum_by-changed (x ∷ xs) (suc i) v w at =
      let a = sum_by-cons f x (set xs i w) in
      let b = sum_by-cons f x xs in
      let r = sum_by-changed xs i v w at in
      omega arith

  -- one view becomes another, and one more comes
  pub sum_by-split : (xs : List X) (i : ℕ) (v kept given : X) → get_elem? xs i ≡ some v → sum_by f (set xs i kept ++ given ∷ []) + f v ≡ sum_by f xs + f kept + f given
  sum_by-split xs i v kept given at =
      let c = sum_by-changed xs i v kept at in
      let p = sum_by_push f (set xs i kept) given in
      omega arith

  -- two views become others
  pub sum_by-join : (xs : List X) (i j : ℕ) (v u both spent : X) → j ≢ i → get_elem? xs i ≡ some v → get_elem? xs j ≡ some u → sum_by f (set (set xs i both) j spent) + f v + f u ≡ sum_by f xs + f both + f spent
  sum_by-join xs i j v u both spent apart at there =
      let a = sum_by-changed xs i v both at in
      let b = sum_by-changed (set xs i both) j u spent (set_else xs i j both apart ∙ there) in
      omega arith

  pub one_within : (xs : List X) (i : ℕ) (v : X) → get_elem? xs i ≡ some v → f v ≤ sum_by f xs
  one_within [] i v at = absurd (some-ne-none v (sym at))
  one_within (x ∷ xs) zero v at = let is : f x ≡ f v = ap f (some-injective x v at) in let c = sum_by-cons f x xs in omega arith
  one_within (x ∷ xs) (suc i) v at = let r = one_within xs i v at in let c = sum_by-cons f x xs in omega arith

  -- two of the numbers are together no more than the sum
  pub two_within : (xs : List X) (i j : ℕ) (v w : X) → get_elem? xs i ≡ some v → get_elem? xs j ≡ some w → j ≢ i → f v + f w ≤ sum_by f xs
  two_within [] i j v w at there apart = absurd (some-ne-none v (sym at))
  two_within (x ∷ xs) zero zero v w at there apart = absurd (apart refl)
  two_within (x ∷ xs) zero (suc j) v w at there apart =
      let is : f x ≡ f v = ap f (some-injective x v at) in
      let r = one_within xs j w there in
      let c = sum_by-cons f x xs in
      omega arith
  two_within (x ∷ xs) (suc i) zero v w at there apart =
      let is : f x ≡ f w = ap f (some-injective x w there) in
      let r = one_within xs i v at in
      let c = sum_by-cons f x xs in
      omega arith
  two_within (x ∷ xs) (suc i) (suc j) v w at there apart =
      let r = two_within xs i j v w at there (λ is. apart (ap suc is)) in
      let c = sum_by-cons f x xs in
      omega arith

  none_of : (xs : List X) → ((j : ℕ) (w : X) → get_elem? xs j ≡ some w → f w ≡ 0) → sum_by f xs ≡ 0
  none_of [] none = refl
  none_of (x ∷ xs) none =
      let here : f x ≡ 0 = none 0 x refl in
      let r = none_of xs (λ j w at. none (suc j) w at) in
      let c = sum_by-cons f x xs in
      omega arith

  -- where all others are 0, the sum is one number
  pub one_of : (xs : List X) (i : ℕ) (v : X) → get_elem? xs i ≡ some v → ((j : ℕ) (w : X) → j ≢ i → get_elem? xs j ≡ some w → f w ≡ 0) → sum_by f xs ≡ f v
  one_of [] i v at others = absurd (some-ne-none v (sym at))
  one_of (x ∷ xs) zero v at others =
      let is : f x ≡ f v = ap f (some-injective x v at) in
      let r = none_of xs (λ j w there. others (suc j) w (λ e. omega arith) there) in
      let c = sum_by-cons f x xs in
      omega arith
  one_of (x ∷ xs) (suc i) v at others =
      let here : f x ≡ 0 = others 0 x (λ e. omega arith) refl in
      let r = one_of xs i v at (λ j w apart there. others (suc j) w (λ e. apart (omega arith)) there) in
      let c = sum_by-cons f x xs in
      omega arith

-- how often a number stands in the lists of all seats, as views change
module _ {X : Type 0} (f : X → List ℕ) (x : ℕ) where
  many : X → ℕ
  many y = times x (f y)

  pub times-changed : (views : List X) (i : ℕ) (v w : X) → get_elem? views i ≡ some v → times x (flat_map f (set views i w)) + times x (f v) ≡ times x (flat_map f views) + times x (f w)
  unfolding many
  times-changed views i v w at =
      let a = times-flat_map f x (set views i w) in
      let b = times-flat_map f x views in
      let c = sum_by-changed many views i v w at in
      omega arith

  pub times-split : (views : List X) (i : ℕ) (v kept given : X) → get_elem? views i ≡ some v → times x (flat_map f (set views i kept ++ given ∷ [])) + times x (f v) ≡ times x (flat_map f views) + times x (f kept) + times x (f given)
  unfolding many
  times-split views i v kept given at =
      let a = times-flat_map f x (set views i kept ++ given ∷ []) in
      let b = times-flat_map f x views in
      let c = sum_by-split many views i v kept given at in
      omega arith

  pub times-join : (views : List X) (i j : ℕ) (v u both spent : X) → j ≢ i → get_elem? views i ≡ some v → get_elem? views j ≡ some u
      → times x (flat_map f (set (set views i both) j spent)) + times x (f v) + times x (f u) ≡ times x (flat_map f views) + times x (f both) + times x (f spent)
  unfolding many
  times-join views i j v u both spent apart at there =
      let a = times-flat_map f x (set (set views i both) j spent) in
      let b = times-flat_map f x views in
      let c = sum_by-join many views i j v u both spent apart at there in
      omega arith

  pub times-last : (views : List X) (i : ℕ) (v : X) → get_elem? views i ≡ some v → ((j : ℕ) (w : X) → j ≢ i → get_elem? views j ≡ some w → f w ≡ []) → times x (flat_map f views) ≡ times x (f v)
  unfolding many
  times-last views i v at others = times-flat_map f x views ∙ one_of many views i v at (λ j w apart there. ap (times x) (others j w apart there))

  pub times-one : (views : List X) (i : ℕ) (v : X) → get_elem? views i ≡ some v → times x (f v) ≤ times x (flat_map f views)
  unfolding many
  times-one views i v at =
      let a = times-flat_map f x views in
      let c = one_within many views i v at in
      omega arith
