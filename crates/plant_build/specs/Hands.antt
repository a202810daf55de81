-- What contracts see of a hand and of the deques that it reaches.
use Rattle.std.specs.Prelude.{◌≡◌, ℕ, ◌+◌, ◌-◌, ◌^◌, ◌≤◌, List, [], ◌∷◌, ◌++◌, Option, Some, None, min, map, take, drop, slice_get}
use Rattle.std.specs.declared.alloc.Global.{Global}
use Rattle.atomic_blocks.specs.Lent.{RowsId}
use Rattle.plant_build.specs.Balance.{times}

-- which deque it is
abbrev pub DequeId : Type 0
DequeId = RowsId × Global

-- A deque as a hand reaches it: which it is, the batches that the hand took from it, and how often the hand found it empty
pub record Reached : Type 0 where
  pub deque : DequeId
  pub got : List ℕ
  pub empties : ℕ

-- a hand's own deque, the batches that were put into it, how often it was lent to another hand, and how often it came back
pub record Owned : Type 0 where
  pub reached : Reached
  pub put : List ℕ
  pub lent : ℕ
  pub back : ℕ

-- the hand has done nothing with the deque
abbrev pub unused : DequeId → Reached
unused deque = record { deque = deque; got = []; empties = 0 }

-- a batch was taken from it
abbrev pub taken_from : Reached → ℕ → Reached
taken_from r b = record { deque = r.deque; got = r.got ++ b ∷ []; empties = r.empties }

-- it was found empty once more. The count stands still at the end of its type
abbrev pub found_empty : Reached → Reached
found_empty r = record { deque = r.deque; got = r.got; empties = min (r.empties + 1) (2 ^ 64 - 1) }

-- The deques were asked in their order. Each was found empty, up to the one that gave the batch; those after it weren't asked. Without a batch each was found empty
abbrev pub Asked : Option ℕ → List Reached → List Reached → Type 0
Asked None old new = new ≡ map found_empty old
Asked (Some b) old new = (k : ℕ) × (r : Reached) × (slice_get old k ≡ Some r) × (new ≡ map found_empty (take k old) ++ taken_from r b ∷ drop (k + 1) old)

-- No more came back than was lent. Where all that was lent came back, each number was put as often as it was taken or is among the rest
abbrev pub IsSettled : Owned → List ℕ → Type 0
IsSettled own rest = (own.back ≤ own.lent) × (own.lent ≡ own.back → (x : ℕ) → times x own.put ≡ times x own.reached.got + times x rest)
