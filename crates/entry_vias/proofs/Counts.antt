-- In how many slots of a table a via is sought, as slots are written.
use Rattle.std.proofs.Common.{◌≡◌, ℕ, zero, suc, ◌+◌, ◌<◌, ◌≤◌, List, [], ◌∷◌, length, set, refl, ap, arith}
use Rattle.entry_vias.specs.declared.slot.Slot.{Slot}
use Rattle.entry_vias.specs.declared.slot.Slot.TheVariants.{NoEntry, Sought, Found}
use Rattle.entry_vias.specs.Slots.{slot_at, slot_of, one_if_sought, sought_in, IsEmpty}

-- the slot of an entry that is no node's own
pub slot_of-far : (d : ℕ) → 1 ≤ d → slot_of d ≡ Sought d
slot_of-far zero far = absurd (omega (arith, far))
slot_of-far (suc d) far = refl

pub one-far : (d : ℕ) → 1 ≤ d → one_if_sought (slot_of d) ≡ 1
one-far d far = ap one_if_sought (slot_of-far d far)

pub one-own : (d : ℕ) → d ≡ 0 → one_if_sought (slot_of d) ≡ 0
one-own d none = ap (λ e. one_if_sought (slot_of e)) none

one-le : (slot : Slot) → one_if_sought slot ≤ 1
one-le NoEntry = omega arith
one-le (Sought d) = omega arith
one-le (Found via) = omega arith

-- no more are sought than there are slots
pub sought_in-le : (table : List Slot) → sought_in table ≤ length table
sought_in-le [] = omega arith
sought_in-le (slot ∷ table) = omega (arith, one-le slot, sought_in-le table)

-- one slot is written
pub sought_in-set : (table : List Slot) (k : ℕ) (slot : Slot) → k < length table → sought_in (set table k slot) + one_if_sought (slot_at table k) ≡ sought_in table + one_if_sought slot
sought_in-set [] k slot lt = absurd (omega (arith, lt))
sought_in-set (x ∷ table) zero slot lt = omega arith
sought_in-set (x ∷ table) (suc k) slot lt = omega (arith, sought_in-set table k slot (omega (arith, lt)))

-- in a table without entries none is sought
pub sought_in-empty : (table : List Slot) → IsEmpty table → sought_in table ≡ 0
sought_in-empty [] empty = refl
sought_in-empty (slot ∷ table) empty =
    let first : one_if_sought slot ≡ 0 = ap one_if_sought (empty 0) in
    omega (arith, first, sought_in-empty table (λ p. empty (suc p)))

-- where none is sought, none is at any position
pub none_sought : (table : List Slot) (p d : ℕ) → sought_in table ≡ 0 → slot_at table p ≡ Sought d → ⊥
none_sought [] p d none is = absurd cc
none_sought (slot ∷ table) zero d none is =
    let one : one_if_sought slot ≡ 1 = ap one_if_sought is in
    omega (arith, one, none)
none_sought (slot ∷ table) (suc p) d none is = none_sought table p d (omega (arith, none)) is
