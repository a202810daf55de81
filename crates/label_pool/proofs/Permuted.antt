-- What all seats have, one after another, as views change: the same in another order, with what came.
use Rattle.std.proofs.Common.{◌≡◌, ◌≢◌, ℕ, zero, suc, List, [], ◌∷◌, ◌++◌, set, refl, sym, ap, ◌∙◌, subst, arith}
use Rattle.std.specs.List.{flat_map}
use Rattle.std.specs.List.Sorted.{IsPermutation}
use Rattle.std.proofs.lemmas.Grind.{flat_map-append}
use Rattle.std.proofs.lemmas.List.{append_assoc, append-nil, set-set, set_comm}
use Rattle.std.proofs.lemmas.List.Concat.{flat_map-cons}
use Rattle.std.proofs.lemmas.List.Sorted.{IsPermutation-sym, IsPermutation-trans, IsPermutation-append_left, IsPermutation-append_right, IsPermutation-append_comm}
use Rattle.std.specs.Prelude.{Contains}
use Rattle.std.proofs.lemmas.List.Elements.{Contains-append_left, Contains-append_right}
use mathlib.Core.Option.{some, some-injective, some-ne-none}
use lib.ListN.{get_elem?}
use Rattle.atomic_table.proofs.Lists.{set_again, set_else, set_here}
use Rattle.table_seats.proofs.EachSeat.{within}

moved : {Y : Type 0} (before ys rest : List Y) → IsPermutation ((before ++ ys) ++ rest) (ys ++ (before ++ rest))
moved before ys rest = subst (IsPermutation ((before ++ ys) ++ rest)) (append_assoc ys before rest) (IsPermutation-append_left rest (before ++ ys) (ys ++ before) (IsPermutation-append_comm before ys))

module _ {X Y : Type 0} (f : X → List Y) where
  -- a view changes, and what it has stays
  pub flat_map-same : (xs : List X) (i : ℕ) (v w : X) → get_elem? xs i ≡ some v → f w ≡ f v → flat_map f (set xs i w) ≡ flat_map f xs
  flat_map-same [] i v w at same = absurd (some-ne-none v (sym at))
  flat_map-same (x ∷ xs) zero v w at same =
      flat_map-cons f w xs ∙ ap (λ ys. ys ++ flat_map f xs) (same ∙ ap f (sym (some-injective x v at))) ∙ sym (flat_map-cons f x xs)
  flat_map-same (x ∷ xs) (suc i) v w at same =
      flat_map-cons f x (set xs i w) ∙ ap (λ ys. f x ++ ys) (flat_map-same xs i v w at same) ∙ sym (flat_map-cons f x xs)

  -- a view comes that has nothing
  pub flat_map-none : (xs : List X) (w : X) → f w ≡ [] → flat_map f (xs ++ w ∷ []) ≡ flat_map f xs
  flat_map-none xs w none =
      flat_map-append f xs (w ∷ []) ∙ ap (λ ys. flat_map f xs ++ ys) (flat_map-cons f w [] ∙ ap (λ ys. ys ++ []) none) ∙ append-nil (flat_map f xs)

  -- what one view has grows
  pub flat_map-more : (xs : List X) (i : ℕ) (v w : X) (ys : List Y) → get_elem? xs i ≡ some v → f w ≡ f v ++ ys → IsPermutation (flat_map f (set xs i w)) (ys ++ flat_map f xs)
  flat_map-more [] i v w ys at grown = absurd (some-ne-none v (sym at))
  flat_map-more (x ∷ xs) zero v w ys at grown =
      let here : f w ≡ f x ++ ys = grown ∙ ap (λ y. f y ++ ys) (sym (some-injective x v at)) in
      subst (λ zs. IsPermutation zs (ys ++ flat_map f (x ∷ xs))) (sym (flat_map-cons f w xs ∙ ap (λ zs. zs ++ flat_map f xs) here))
      (subst (λ zs. IsPermutation ((f x ++ ys) ++ flat_map f xs) (ys ++ zs)) (sym (flat_map-cons f x xs)) (moved (f x) ys (flat_map f xs)))
  flat_map-more (x ∷ xs) (suc i) v w ys at grown =
      let rest = IsPermutation-append_right (f x) (flat_map f (set xs i w)) (ys ++ flat_map f xs) (flat_map-more xs i v w ys at grown) in
      let here = subst (λ zs. IsPermutation zs (ys ++ (f x ++ flat_map f xs))) (append_assoc (f x) ys (flat_map f xs)) (moved (f x) ys (flat_map f xs)) in
      subst (λ zs. IsPermutation zs (ys ++ flat_map f (x ∷ xs))) (sym (flat_map-cons f x (set xs i w)))
      (subst (λ zs. IsPermutation (f x ++ flat_map f (set xs i w)) (ys ++ zs)) (sym (flat_map-cons f x xs))
      (IsPermutation-trans _ _ _ rest here))

  -- what one view has goes
  flat_map-less : (xs : List X) (j : ℕ) (u s : X) → get_elem? xs j ≡ some u → f s ≡ [] → IsPermutation (flat_map f xs) (f u ++ flat_map f (set xs j s))
  flat_map-less xs j u s at none =
      let back : set (set xs j s) j u ≡ xs = set-set xs j s u ∙ set_again xs j u at in
      subst (λ zs. IsPermutation (flat_map f zs) (f u ++ flat_map f (set xs j s))) back
      (flat_map-more (set xs j s) j s u (f u) (set_here xs j s (within xs j u at)) (ap (λ ys. ys ++ f u) (sym none)))

  -- what one view has goes to another
  pub flat_map-join : (xs : List X) (i j : ℕ) (v u both spent : X) → j ≢ i → get_elem? xs i ≡ some v → get_elem? xs j ≡ some u → f both ≡ f v ++ f u → f spent ≡ []
      → IsPermutation (flat_map f (set (set xs i both) j spent)) (flat_map f xs)
  flat_map-join xs i j v u both spent apart at there grown none =
      let still : get_elem? (set xs j spent) i ≡ some v = set_else xs j i spent (λ is. apart (sym is)) ∙ at in
      subst (λ zs. IsPermutation (flat_map f zs) (flat_map f xs)) (set_comm xs j i spent both apart)
      (IsPermutation-trans _ _ _ (flat_map-more (set xs j spent) i v both (f u) still grown) (IsPermutation-sym _ _ (flat_map-less xs j u spent there none)))

  flat_map-nothing : (xs : List X) → ((j : ℕ) (w : X) → get_elem? xs j ≡ some w → f w ≡ []) → flat_map f xs ≡ []
  flat_map-nothing [] none = refl
  flat_map-nothing (x ∷ xs) none = flat_map-cons f x xs ∙ ap (λ ys. ys ++ flat_map f xs) (none 0 x refl) ∙ flat_map-nothing xs (λ j w at. none (suc j) w at)

  -- what one has is among what all have
  pub one-of-all : (xs : List X) (i : ℕ) (v : X) (y : Y) → get_elem? xs i ≡ some v → Contains (f v) y → Contains (flat_map f xs) y
  one-of-all [] i v y at there = absurd (some-ne-none v (sym at))
  one-of-all (x ∷ xs) zero v y at there =
      subst (λ zs. Contains zs y) (sym (flat_map-cons f x xs)) (Contains-append_left (f x) (flat_map f xs) y (subst (λ z. Contains (f z) y) (sym (some-injective x v at)) there))
  one-of-all (x ∷ xs) (suc i) v y at there = subst (λ zs. Contains zs y) (sym (flat_map-cons f x xs)) (Contains-append_right (f x) (flat_map f xs) y (one-of-all xs i v y at there))

  -- where the others have nothing
  pub flat_map-one : (xs : List X) (i : ℕ) (v : X) → get_elem? xs i ≡ some v → ((j : ℕ) (w : X) → j ≢ i → get_elem? xs j ≡ some w → f w ≡ []) → flat_map f xs ≡ f v
  flat_map-one [] i v at others = absurd (some-ne-none v (sym at))
  flat_map-one (x ∷ xs) zero v at others =
      flat_map-cons f x xs ∙ ap (λ ys. f x ++ ys) (flat_map-nothing xs (λ j w there. others (suc j) w (λ e. omega arith) there)) ∙ append-nil (f x) ∙ ap f (some-injective x v at)
  flat_map-one (x ∷ xs) (suc i) v at others =
      flat_map-cons f x xs ∙ ap (λ ys. ys ++ flat_map f xs) (others 0 x (λ e. omega arith) refl) ∙ flat_map-one xs i v at (λ j w apart there. others (suc j) w (λ e. apart (omega arith)) there)
