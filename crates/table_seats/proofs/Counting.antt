-- How often a number stands in a list, and lists in which each number stands equally often.
use Rattle.std.proofs.Common.{◌≡◌, ◌≢◌, ℕ, zero, suc, ◌+◌, ◌-◌, ◌<◌, ◌≤◌, false, cond, eqb, eq-eqb, ne_eqb, List, [], ◌∷◌, ◌++◌, refl, sym, ap, ◌∙◌, subst, arith}
use Rattle.std.specs.List.{count_by, sum_by, flat_map, range_with_len, AllByRecursion, IsDistinct}
use Rattle.std.specs.List.Sorted.{IsPermutation}
use Rattle.std.proofs.lemmas.List.Sums.{sum_by-cons, sum_by-append, sum_by_push}
use Rattle.std.proofs.lemmas.List.Sorted.{IsPermutation-refl, IsPermutation-sym, IsPermutation-trans, IsPermutation-cons, IsPermutation-middle, sum_by-IsPermutation}
use Rattle.std.proofs.lemmas.List.Concat.{flat_map-cons}
use mathlib.Core.Logic.{dite}
use native.Mathlib.Decide.{ℕ_discrete}
use Rattle.table_seats.specs.Numbers.{numbers}

-- 1 where the numbers are the same, and else 0
abbrev pub once : ℕ → ℕ → ℕ
once x y = cond (eqb y x) 1 0

abbrev pub times : ℕ → List ℕ → ℕ
times x xs = count_by (λ y. eqb y x) xs

once-same : (x y : ℕ) → y ≡ x → once x y ≡ 1
once-same x y is = ap (λ b. cond b 1 0) (eq-eqb y x is)

once-other : (x y : ℕ) → y ≢ x → once x y ≡ 0
once-other x y not = ap (λ b. cond b 1 0) (ne_eqb y x not)

pub times-cons : (x y : ℕ) (ys : List ℕ) → times x (y ∷ ys) ≡ once x y + times x ys
times-cons x y ys = sum_by-cons (once x) y ys

pub times-append : (x : ℕ) (xs ys : List ℕ) → times x (xs ++ ys) ≡ times x xs + times x ys
times-append x xs ys = sum_by-append (once x) xs ys

pub times-push : (x : ℕ) (xs : List ℕ) (y : ℕ) → times x (xs ++ y ∷ []) ≡ times x xs + once x y
times-push x xs y = sum_by_push (once x) xs y

pub times-flat_map : {X : Type 0} (f : X → List ℕ) (x : ℕ) (xs : List X) → times x (flat_map f xs) ≡ sum_by (λ y. times x (f y)) xs
times-flat_map f x [] = refl
times-flat_map f x (y ∷ ys) =
    ap (times x) (flat_map-cons f y ys) ∙ times-append x (f y) (flat_map f ys) ∙ ap (λ n. times x (f y) + n) (times-flat_map f x ys)
    ∙ sym (sum_by-cons (λ z. times x (f z)) y ys)

pub times-permutation : (x : ℕ) (xs ys : List ℕ) → IsPermutation xs ys → times x xs ≡ times x ys
times-permutation x xs ys same = sym (sum_by-IsPermutation (once x) xs ys same)

-- a number that stands in a list stands between two parts of it
pub found : (x : ℕ) (ys : List ℕ) → 0 < times x ys → (before : List ℕ) × (after : List ℕ) × (ys ≡ before ++ x ∷ after)
found x [] some = absurd (omega arith)
found x (y ∷ ys) some =
    dite (ℕ_discrete y x)
    (λ is. ([], ys, ap (λ z. z ∷ ys) is))
    (λ not.
    let c = times-cons x y ys in
    let o = once-other x y not in
    let more : 0 < times x ys = omega arith in
    let r = found x ys more in (y ∷ r.0, r.1, ap (λ zs. y ∷ zs) r.2))

pub permutation-times : (xs ys : List ℕ) → ((x : ℕ) → times x xs ≡ times x ys) → IsPermutation xs ys
permutation-times [] [] same = IsPermutation-refl []
permutation-times [] (y ∷ ys) same =
    let s : times y [] ≡ times y (y ∷ ys) = same y in
    let c = times-cons y y ys in
    let o = once-same y y refl in
    let none : times y [] ≡ 0 = refl in
    absurd (omega arith)
permutation-times (x ∷ xs) ys same =
    let s : times x (x ∷ xs) ≡ times x ys = same x in
    let c = times-cons x x xs in
    let o = once-same x x refl in
    let some : 0 < times x ys = omega arith in
    let r = found x ys some in
    let rest : (z : ℕ) → times z xs ≡ times z (r.0 ++ r.1) = λ z. less z r.0 r.1 (same z ∙ ap (times z) r.2) in
    let tail : IsPermutation xs (r.0 ++ r.1) = permutation-times xs (r.0 ++ r.1) rest in
    subst (IsPermutation (x ∷ xs)) (sym r.2)
    (IsPermutation-trans (x ∷ xs) (x ∷ (r.0 ++ r.1)) (r.0 ++ x ∷ r.1) (IsPermutation-cons x xs (r.0 ++ r.1) tail)
    (IsPermutation-sym (r.0 ++ x ∷ r.1) (x ∷ (r.0 ++ r.1)) (IsPermutation-middle r.0 x r.1)))
  where
    less : (z : ℕ) (before after : List ℕ) → times z (x ∷ xs) ≡ times z (before ++ x ∷ after) → times z xs ≡ times z (before ++ after)
    less z before after both =
        let a = times-cons z x xs in
        let b = times-append z before (x ∷ after) in
        let c = times-cons z x after in
        let d = times-append z before after in
        omega arith

range-push : (a n : ℕ) → range_with_len a (suc n) ≡ range_with_len a n ++ (a + n) ∷ []
range-push a zero = let same : a ≡ a + 0 = omega arith in ap (λ k. k ∷ []) same
range-push a (suc n) = let same : a + 1 + n ≡ a + suc n = omega arith in
    ap (λ ks. a ∷ ks) (range-push (a + 1) n ∙ ap (λ k. range_with_len (a + 1) n ++ k ∷ []) same)

-- the numbers up to the one after the next
pub numbers-push : (first next : ℕ) → first ≤ next → numbers first (next + 1) ≡ numbers first next ++ next ∷ []
numbers-push first next within =
    let more : next + 1 - first ≡ suc (next - first) = omega arith in
    let last : first + (next - first) ≡ next = omega arith in
    ap (range_with_len first) more ∙ range-push first (next - first) ∙ ap (λ k. numbers first next ++ k ∷ []) last

-- a list without a number
AllOther-none : (x : ℕ) (xs : List ℕ) → times x xs ≡ 0 → AllByRecursion (λ y. eqb x y ≡ false) xs
AllOther-none x [] none = tt
AllOther-none x (y ∷ ys) none =
    let c = times-cons x y ys in
    let other : x ≢ y = λ is. let o = once-same x y (sym is) in omega arith in
    let rest : times x ys ≡ 0 = omega arith in
    (ne_eqb x y other, AllOther-none x ys rest)

pub IsDistinct-times : (xs : List ℕ) → ((x : ℕ) → times x xs ≤ 1) → IsDistinct eqb xs
unfolding IsDistinct
IsDistinct-times [] most = tt
IsDistinct-times (x ∷ xs) most =
    let here : times x (x ∷ xs) ≤ 1 = most x in
    let c = times-cons x x xs in
    let o = once-same x x refl in
    let none : times x xs ≡ 0 = omega arith in
    (AllOther-none x xs none, IsDistinct-times xs (λ z. let m : times z (x ∷ xs) ≤ 1 = most z in let d = times-cons z x xs in omega arith))

times-below : (x a n : ℕ) → x < a → times x (range_with_len a n) ≡ 0
times-below x a zero low = refl
times-below x a (suc n) low =
    let c = times-cons x a (range_with_len (a + 1) n) in
    let other : a ≢ x = λ is. omega arith in
    let o = once-other x a other in
    let r = times-below x (a + 1) n (omega arith) in
    omega arith

times-range : (x a n : ℕ) → times x (range_with_len a n) ≤ 1
times-range x a zero = let none : times x [] ≡ 0 = refl in omega arith
times-range x a (suc n) =
    let c = times-cons x a (range_with_len (a + 1) n) in
    dite (ℕ_discrete a x)
    (λ is. let o = once-same x a is in let r = times-below x (a + 1) n (omega arith) in omega arith)
    (λ not. let o = once-other x a not in let r = times-range x (a + 1) n in omega arith)

pub times-numbers : (x first next : ℕ) → times x (numbers first next) ≤ 1
times-numbers x first next = times-range x first (next - first)
