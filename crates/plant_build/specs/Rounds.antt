-- Hands that share their deques.
use Rattle.std.specs.Prelude.{◌≡◌, ℕ, ◌+◌, ◌%◌, ◌<◌, List, ◌∷◌, length, map, slice_get, sum_by, All, Some}
use Rattle.plant_build.specs.declared.hand.Hand.{Hand}
use Rattle.plant_build.specs.Hands.{DequeId, Reached, unused}
use Rattle.plant_build.specs.Balance.{times}

-- the deques of a hand in the order in which it asks them: its own, and then the others
abbrev pub reaches : Hand → List Reached
reaches h = h.own.reached ∷ h.others.items

abbrev pub deques_of : List Reached → List DequeId
deques_of rs = map (λ r. r.deque) rs

-- how often a number was taken from these deques
abbrev pub got_from : ℕ → List Reached → ℕ
got_from x rs = sum_by (λ r. times x r.got) rs

-- What of a hand no taking changes: the batches that were put into its deque, how often the deque was lent and came back, and the deques that the hand asks
pub record Share : Type 0 where
  pub put : List ℕ
  pub lent : ℕ
  pub back : ℕ
  pub deques : List DequeId

abbrev pub share_of : Hand → Share
share_of h = record { put = h.own.put; lent = h.own.lent; back = h.own.back; deques = deques_of (reaches h) }

-- how often a number was taken by these hands
abbrev pub taken_by : ℕ → List Hand → ℕ
taken_by x hands = sum_by (λ h. got_from x (reaches h)) hands

-- how often a number was put into the deques of these hands
abbrev pub put_by : ℕ → List Share → ℕ
put_by x shares = sum_by (λ s. times x s.put) shares

-- the deques one round, beginning with that at a place
abbrev pub IsRound : List DequeId → ℕ → List DequeId → Type 0
IsRound all place deques = (length deques ≡ length all) × ((k : ℕ) → k < length all → slice_get deques k ≡ slice_get all ((place + k) % length all))

-- Each of the hands asks the deques of all one round, beginning with its own. What of them is lent has not come back
pub record IsOneRound (shares : List Share) : Type 0 where
  pub all : List DequeId
  pub count : length all ≡ length shares
  pub rounds : (place : ℕ) (s : Share) → slice_get shares place ≡ Some s → IsRound all place s.deques
  pub lent : sum_by (λ s. s.lent + 1) shares ≡ sum_by (λ s. s.back + length s.deques) shares

-- the hand has taken nothing
abbrev pub HasTakenNothing : Hand → Type 0
HasTakenNothing h = All (λ r. r ≡ unused r.deque) (reaches h)
