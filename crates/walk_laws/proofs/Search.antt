-- Searches: through a list, and for the least number.
use Rattle.std.proofs.Common.{◌⊎◌, ℕ, zero, suc, ◌≤◌, ◌<◌, List, [], ◌∷◌, Contains, subst, sym, inl, inr, arith}
use Rattle.std.proofs.lemmas.Bool.{cases_lt, cases_eq}
use Rattle.walk_laws.proofs.Members.{Contains-first, Contains-next, Contains-cons_cases, Contains-empty}

-- an element of which P holds
pub record Found {X : Type 0} (P : X → Type 0) (xs : List X) : Type 0 where
  pub element : X
  pub there : Contains xs element
  pub holds : P element

-- the least number of which P holds
pub record LeastNumber (P : ℕ → Type 0) : Type 0 where
  pub number : ℕ
  pub holds : P number
  pub least : (k : ℕ) → P k → number ≤ k

none_in_prefix : {X : Type 0} (P : X → Type 0) (x : X) (xs : List X) → (P x → ⊥) → ((y : X) → Contains xs y → P y → ⊥) → (y : X) → Contains (x ∷ xs) y → P y → ⊥
none_in_prefix P x xs not_first none y there holds =
    elim (Contains-cons_cases x y xs there) [
      | inl same ↦ not_first (subst P (sym same) holds)
      | inr later ↦ none y later holds
    ]

-- where each element is decided, one is found or there is none
pub Found-decided : {X : Type 0} (P : X → Type 0) (xs : List X) → ((x : X) → Contains xs x → P x ⊎ (P x → ⊥)) → Found P xs ⊎ ((x : X) → Contains xs x → P x → ⊥)
Found-decided P [] decide = inr (λ x there _. Contains-empty x there)
Found-decided P (x ∷ xs) decide =
    elim (decide x (Contains-first x xs)) [
      | inl holds ↦ inl (record { element = x; there = Contains-first x xs; holds = holds })
      | inr not_first ↦ elim (Found-decided P xs (λ y there. decide y (Contains-next x y xs there))) [
        | inl found ↦ inl (record { element = found.element; there = Contains-next x found.element xs found.there; holds = found.holds })
        | inr none ↦ inr (none_in_prefix P x xs not_first none)
      ]
    ]

-- nothing below n and nothing at n is nothing below n + 1
none_below_next : (P : ℕ → Type 0) (n : ℕ) → ((k : ℕ) → k < n → P k → ⊥) → (P n → ⊥) → (k : ℕ) → k < suc n → P k → ⊥
none_below_next P n none not_here k lt holds =
    elim (cases_eq k n) [
      | inl same ↦ not_here (subst P same holds)
      | inr other ↦ none k (omega arith) holds
    ]

least_at : (P : ℕ → Type 0) (n : ℕ) → ((k : ℕ) → k < n → P k → ⊥) → P n → LeastNumber P
least_at P n none here = record { number = n; holds = here; least = λ k holds. least k holds }
  where
    least : (k : ℕ) → P k → n ≤ k
    least k holds = elim (cases_lt k n) [ inl below ↦ absurd (none k below holds) | inr above ↦ above ]

-- the least number of which P holds, or none below n
pub LeastNumber-below : (P : ℕ → Type 0) → ((n : ℕ) → P n ⊎ (P n → ⊥)) → (n : ℕ) → LeastNumber P ⊎ ((k : ℕ) → k < n → P k → ⊥)
LeastNumber-below P decide zero = inr (λ k lt _. omega arith)
LeastNumber-below P decide (suc n) =
    elim (LeastNumber-below P decide n) [
      | inl least ↦ inl least
      | inr none ↦ elim (decide n) [
        | inl here ↦ inl (least_at P n none here)
        | inr not_here ↦ inr (none_below_next P n none not_here)
      ]
    ]

-- where P holds of a number, there is a least one
pub LeastNumber-exists : (P : ℕ → Type 0) → ((n : ℕ) → P n ⊎ (P n → ⊥)) → (n : ℕ) → P n → LeastNumber P
LeastNumber-exists P decide n holds =
    elim (LeastNumber-below P decide (suc n)) [
      | inl least ↦ least
      | inr none ↦ absurd (none n (omega arith) holds)
    ]
