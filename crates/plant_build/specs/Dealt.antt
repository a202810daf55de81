-- Parts of a deal.
use Rattle.std.specs.Prelude.{◌≡◌, ℕ, ◌+◌, ◌%◌, ◌<◌, List, length, map, slice_get, sum_by, All, Some}
use Rattle.plant_build.specs.declared.hand.Hand.{Hand}
use Rattle.plant_build.specs.Hands.{DequeId, Reached, unused}
use Rattle.plant_build.specs.Rounds.{deques_of}

-- the own deque of each hand
abbrev pub owns_of : List Hand → List Reached
owns_of hands = map (λ h. h.own.reached) hands

-- what was put into it
abbrev pub puts_of : List Hand → List (List ℕ)
puts_of hands = map (λ h. h.own.put) hands

-- the deques that are lent to each hand
abbrev pub others_of : List Hand → List (List Reached)
others_of hands = map (λ h. h.others.items) hands

-- how often deques of these hands are lent
abbrev pub lent_by : List Hand → ℕ
lent_by hands = sum_by (λ h. h.own.lent) hands

-- how often they have come back
abbrev pub back_by : List Hand → ℕ
back_by hands = sum_by (λ h. h.own.back) hands

-- how often deques are lent to these hands
abbrev pub borrowed_by : List Hand → ℕ
borrowed_by hands = sum_by (λ os. length os) (others_of hands)

abbrev pub AreUnused : List Reached → Type 0
AreUnused rs = All (λ r. r ≡ unused r.deque) rs

-- into each deque were put the batches that are its place modulo the number of deques
abbrev pub AreAtHome : List (List ℕ) → Type 0
AreAtHome puts = (k : ℕ) (put : List ℕ) → slice_get puts k ≡ Some put → All (λ b. b % length puts ≡ k) put

-- the deques one round, without that at a place and beginning with the next one
abbrev pub IsRest : List DequeId → ℕ → List DequeId → Type 0
IsRest all place deques = (length deques + 1 ≡ length all) × ((k : ℕ) → k < length deques → slice_get deques k ≡ slice_get all ((place + 1 + k) % length all))

-- each hand was lent the deques of the others, one round, and has taken nothing from them
abbrev pub AreLent : List DequeId → List (List Reached) → Type 0
AreLent all others = (place : ℕ) (os : List Reached) → slice_get others place ≡ Some os → IsRest all place (deques_of os) × AreUnused os
