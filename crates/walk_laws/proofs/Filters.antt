-- What `filter` keeps.
use Rattle.std.specs.Prelude.{◌≡◌, Bool, true, false, not, ◌&&◌, List, [], ◌∷◌, ◌++◌, All, Contains, filter, map, refl}
use Rattle.std.proofs.Common.{◌∙◌, ap, cond, inl, inr}
use Rattle.std.proofs.lemmas.Bool.{cond-true, cond-false, both_ways, not-true}
use Rattle.std.proofs.lemmas.List.Elements.{All-head, All-tail, All-filter, All-contains, All-contains_itself, Contains-append_cases, filter_passes}
use Rattle.std.proofs.lemmas.List.Sorted.{IsPermutation-filter_both, Contains-permutation}

pub filter_none : {X : Type 0} (p : X → Bool) (xs : List X) → All (λ x. p x ≡ false) xs → filter p xs ≡ []
filter_none p [] h = refl
filter_none p (x ∷ xs) h =
    cond-false _ _ _ (All-head (λ y. p y ≡ false) x xs h) ∙ filter_none p xs (All-tail (λ y. p y ≡ false) x xs h)

pub filter_all : {X : Type 0} (p : X → Bool) (xs : List X) → All (λ x. p x ≡ true) xs → filter p xs ≡ xs
filter_all p [] h = refl
filter_all p (x ∷ xs) h =
    cond-true _ _ _ (All-head (λ y. p y ≡ true) x xs h)
    ∙ ap (λ l. x ∷ l) (filter_all p xs (All-tail (λ y. p y ≡ true) x xs h))

pub filter-map : {X Y : Type 0} (p : Y → Bool) (f : X → Y) (xs : List X) → filter p (map f xs) ≡ map f (filter (λ x. p (f x)) xs)
filter-map p f [] = refl
filter-map p f (x ∷ xs) =
    elim (p (f x)) as (λ b. cond b (f x ∷ filter p (map f xs)) (filter p (map f xs)) ≡ map f (cond b (x ∷ filter (λ y. p (f y)) xs) (filter (λ y. p (f y)) xs))) [
      | true ↦ ap (λ l. f x ∷ l) (filter-map p f xs)
      | false ↦ filter-map p f xs
    ]

pub filter-filter : {X : Type 0} (p q : X → Bool) (xs : List X) → filter p (filter q xs) ≡ filter (λ x. q x && p x) xs
filter-filter p q [] = refl
filter-filter p q (x ∷ xs) =
    elim (q x) as (λ b. filter p (cond b (x ∷ filter q xs) (filter q xs)) ≡ cond (b && p x) (x ∷ filter (λ y. q y && p y) xs) (filter (λ y. q y && p y) xs)) [
      | true ↦ ap (λ l. cond (p x) (x ∷ l) l) (filter-filter p q xs)
      | false ↦ filter-filter p q xs
    ]

pub Contains-from_filter : {X : Type 0} (p : X → Bool) (xs : List X) (x : X) → Contains (filter p xs) x → Contains xs x
Contains-from_filter p xs x h =
    All-contains (Contains xs) (filter p xs) x (All-filter p (Contains xs) xs (All-contains_itself xs)) h

-- an element that passes is kept
pub Contains-filter : {X : Type 0} (p : X → Bool) (xs : List X) (x : X) → p x ≡ true → Contains xs x → Contains (filter p xs) x
Contains-filter p xs x passes h =
    elim (Contains-append_cases (filter p xs) (filter (λ y. not (p y)) xs) x (Contains-permutation xs (filter p xs ++ filter (λ y. not (p y)) xs) x (IsPermutation-filter_both p (λ y. not (p y)) (λ _. refl) xs) h)) [
      | inl kept ↦ kept
      | inr left_out ↦ absurd (both_ways (p x) (not-true (p x) (All-contains (λ y. not (p y) ≡ true) (filter (λ y. not (p y)) xs) x (filter_passes (λ y. not (p y)) xs) left_out)) passes)
    ]
