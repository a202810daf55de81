-- Hands of which all deques come back to their owners.
use Rattle.std.specs.Prelude.{◌≡◌, ℕ, ◌+◌, ◌%◌, ◌<◌, List, [], ◌∷◌, length, map, slice_get, sum_by, Some}
use Rattle.plant_build.specs.Hands.{DequeId, Reached, Owned, IsSettled}
use Rattle.plant_build.specs.Balance.{times}
use Rattle.plant_build.specs.Rounds.{deques_of}

-- what of a deque stays as it is when it comes back
abbrev pub kept_of : Owned → List ℕ × ℕ × DequeId
kept_of own = (own.put, own.lent, own.reached.deque)

abbrev pub owned_deques : List Owned → List DequeId
owned_deques owns = map (λ own. own.reached.deque) owns

-- how often a number was put into these deques
abbrev pub put_into : ℕ → List Owned → ℕ
put_into x owns = sum_by (λ own. times x own.put) owns

-- how often it was taken from them
abbrev pub got_of : ℕ → List Owned → ℕ
got_of x owns = sum_by (λ own. times x own.reached.got) owns

-- how often it is left
abbrev pub left_of : ℕ → List (List ℕ) → ℕ
left_of x rests = sum_by (λ rest. times x rest) rests

-- these deques are those after a place, one round
abbrev pub AreAfter : List DequeId → ℕ → List DequeId → Type 0
AreAfter all place deques = (k : ℕ) → k < length deques → slice_get deques k ≡ slice_get all ((place + 1 + k) % length all)

-- the deques that are lent to each hand are those after its own
abbrev pub EachAfter : List DequeId → List (List Reached) → Type 0
EachAfter all rounds = (place : ℕ) (others : List Reached) → slice_get rounds place ≡ Some others → AreAfter all place (deques_of others)

abbrev pub AreSettled : List Owned → List (List ℕ) → Type 0
AreSettled [] [] = Unit {0}
AreSettled [] (rest ∷ rests) = ⊥
AreSettled (own ∷ owns) [] = ⊥
AreSettled (own ∷ owns) (rest ∷ rests) = IsSettled own rest × AreSettled owns rests
