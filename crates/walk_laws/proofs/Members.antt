-- What a list with one more element before it contains.
use Rattle.std.proofs.Common.{◌≡◌, ◌⊎◌, zero, suc, List, [], ◌∷◌, Contains, refl, inl, inr, arith}
use Rattle.std.proofs.lemmas.List.Elements.{Contains-append_right, Contains-append_cases}

pub Contains-first : {X : Type 0} (x : X) (xs : List X) → Contains (x ∷ xs) x
Contains-first x xs = (0, omega arith, refl)

pub Contains-next : {X : Type 0} (y x : X) (xs : List X) → Contains xs x → Contains (y ∷ xs) x
Contains-next y x xs h = Contains-append_right (y ∷ []) xs x h

Contains-one : {X : Type 0} (y x : X) → Contains (y ∷ []) x → y ≡ x
Contains-one y x (zero, lt, is) = is
Contains-one y x (suc k, lt, is) = absurd (omega arith)

pub Contains-cons_cases : {X : Type 0} (y x : X) (xs : List X) → Contains (y ∷ xs) x → (y ≡ x) ⊎ Contains xs x
Contains-cons_cases y x xs h =
    elim (Contains-append_cases (y ∷ []) xs x h) [
      | inl here ↦ inl (Contains-one y x here)
      | inr later ↦ inr later
    ]

pub Contains-empty : {X : Type 0} (x : X) → Contains [] x → ⊥
Contains-empty x h = omega (arith, h.1)
