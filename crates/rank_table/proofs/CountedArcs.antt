-- Lists that have the same elements of each number are as long as each other.
use Rattle.std.proofs.Common.{◌≡◌, ℕ, zero, suc, ◌+◌, ◌≤◌, Bool, true, false, eqb, ltb, cond, List, [], ◌∷◌, length, filter, refl, sym, ap, ◌∙◌, arith, max, add-one}
use Rattle.std.proofs.lemmas.Bool.Decides.{nat_tests}

-- how many elements pass a test
abbrev passing : {X : Type 0} → (X → Bool) → List X → ℕ
passing p [] = 0
passing p (x ∷ xs) = cond (p x) 1 0 + passing p xs

length_filter-passing : {X : Type 0} (p : X → Bool) (xs : List X) → length (filter p xs) ≡ passing p xs
length_filter-passing p [] = refl
length_filter-passing p (x ∷ xs) =
    let rest = length_filter-passing p xs in
    elim (p x) as (λ b. length (cond b (x ∷ filter p xs) (filter p xs)) ≡ cond b 1 0 + passing p xs) [ true ↦ omega arith | false ↦ omega arith ]

no_more : (a p : ℕ) → p ≡ 0 → cond (ltb a 0) 1 0 + p ≡ 0
no_more a p is = grind (arith, nat_tests)

one_of : (a k p q r : ℕ) → p ≡ q + r → cond (ltb a (k + 1)) 1 0 + p ≡ (cond (ltb a k) 1 0 + q) + (cond (eqb a k) 1 0 + r)
one_of a k p q r is = grind (arith, nat_tests)

counted : (a k p q : ℕ) → a + 1 ≤ k → p ≡ q → cond (ltb a k) 1 0 + p ≡ suc q
counted a k p q below is = rw (← add-one q) (grind (arith, nat_tests))

module _ {X : Type 0} (n : X → ℕ) where
  none_below : (xs : List X) → passing (λ x. ltb (n x) 0) xs ≡ 0
  none_below [] = refl
  none_below (x ∷ xs) = no_more (n x) (passing (λ y. ltb (n y) 0) xs) (none_below xs)

  one_more : (k : ℕ) (xs : List X) → passing (λ x. ltb (n x) (k + 1)) xs ≡ passing (λ x. ltb (n x) k) xs + passing (λ x. eqb (n x) k) xs
  one_more k [] = refl
  one_more k (x ∷ xs) = one_of (n x) k (passing (λ y. ltb (n y) (k + 1)) xs) (passing (λ y. ltb (n y) k) xs) (passing (λ y. eqb (n y) k) xs) (one_more k xs)

  -- lists that have as many elements of each number have as many below each bound
  same_below : (xs ys : List X) → ((k : ℕ) → filter (λ x. eqb (n x) k) xs ≡ filter (λ x. eqb (n x) k) ys) → (k : ℕ) → passing (λ x. ltb (n x) k) xs ≡ passing (λ x. ltb (n x) k) ys
  same_below xs ys each zero = none_below xs ∙ sym (none_below ys)
  same_below xs ys each (suc k) =
      let at_k : passing (λ x. eqb (n x) k) xs ≡ passing (λ x. eqb (n x) k) ys = sym (length_filter-passing (λ x. eqb (n x) k) xs) ∙ ap length (each k) ∙ length_filter-passing (λ x. eqb (n x) k) ys in
      let before = same_below xs ys each k in
      let next : passing (λ x. ltb (n x) (k + 1)) xs ≡ passing (λ x. ltb (n x) (k + 1)) ys = omega (arith, one_more k xs, one_more k ys) in
      rw add-one at next

  -- a bound above all of them
  abbrev bound : List X → ℕ
  bound [] = 0
  bound (x ∷ xs) = max (n x + 1) (bound xs)

  all_below : (xs : List X) (k : ℕ) → bound xs ≤ k → passing (λ x. ltb (n x) k) xs ≡ length xs
  all_below [] k le = refl
  all_below (x ∷ xs) k le = counted (n x) k (passing (λ y. ltb (n y) k) xs) (length xs) (omega arith) (all_below xs k (omega arith))

  -- lists that have the same elements of each number are as long
  pub length_from_each : (xs ys : List X) → ((k : ℕ) → filter (λ x. eqb (n x) k) xs ≡ filter (λ x. eqb (n x) k) ys) → length xs ≡ length ys
  length_from_each xs ys each =
      let top = max (bound xs) (bound ys) in
      sym (all_below xs top (omega arith)) ∙ same_below xs ys each top ∙ all_below ys top (omega arith)
