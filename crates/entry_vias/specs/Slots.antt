-- A table with a slot for each position: the entries of one row, and what its neighbours' rows have told of their vias so far.
use Rattle.std.specs.Prelude.{◌≡◌, ◌⊎◌, ℕ, zero, suc, ◌+◌, ◌-◌, ◌<◌, List, [], ◌∷◌, Contains, slice_index_or}
use Rattle.walk_laws.specs.declared.graph.Arc.{Arc}
use Rattle.walk_laws.specs.declared.entry.Entry.{Entry}
use Rattle.walk_laws.specs.LightestArcs.{no_arc}
use Rattle.entry_vias.specs.declared.slot.Slot.{Slot}
use Rattle.entry_vias.specs.declared.slot.Slot.TheVariants.{NoEntry, Sought, Found}
use Rattle.entry_vias.specs.RowVias.{IsNearer, IsFirstNearer}

-- an entry of a position and a distance
abbrev pub entry_at : ℕ → ℕ → Entry
entry_at p d = record { pos = p; dist = d }

-- the slot of an entry at a distance before any neighbour is looked at: the node's own, at 0, has no via
abbrev pub slot_of : ℕ → Slot
slot_of zero = Found 0
slot_of (suc d) = Sought (suc d)

-- 1 where a via is sought, else 0
abbrev pub one_if_sought : Slot → ℕ
one_if_sought NoEntry = 0
one_if_sought (Sought dist) = 1
one_if_sought (Found via) = 0

-- in how many slots a via is sought
abbrev pub sought_in : List Slot → ℕ
sought_in [] = 0
sought_in (slot ∷ slots) = one_if_sought slot + sought_in slots

-- what a table has at the position p
abbrev pub slot_at : List Slot → ℕ → Slot
slot_at table p = slice_index_or table p NoEntry

-- the via that was found, or 0
abbrev pub via_in : Slot → ℕ
via_in NoEntry = 0
via_in (Sought dist) = 0
via_in (Found via) = via

-- no slot has an entry
abbrev pub IsEmpty : List Slot → Type 0
IsEmpty table = (p : ℕ) → slot_at table p ≡ NoEntry

-- the table has nothing but at positions of the row
abbrev pub HoldsNoOther : List Entry → List Slot → Type 0
HoldsNoOther row table = (p : ℕ) → (slot_at table p ≡ NoEntry) ⊎ ((d : ℕ) × Contains row (entry_at p d))

-- the table has each entry of the row at its position, as before any look, and nothing else
pub record IsLaidOut (row : List Entry) (table : List Slot) : Type 0 where
  pub held : (e : Entry) → Contains row e → slot_at table e.pos ≡ slot_of e.dist
  pub others : HoldsNoOther row table

-- the row, at the end of the arc, has the position p, nearer than d by the weight of the arc
abbrev pub LeadsNearer : List Entry → Arc → ℕ → ℕ → Type 0
LeadsNearer row a p d = (f : ℕ) × Contains row (entry_at p f) × (f + a.w ≡ d)

-- what is known at the position p after a look at the row at the end of the arc
abbrev pub IsAfterLook : List Entry → Arc → ℕ → Slot → Slot → Type 0
IsAfterLook row a p NoEntry now = now ≡ NoEntry
IsAfterLook row a p (Found via) now = now ≡ Found via
IsAfterLook row a p (Sought d) now = ((now ≡ Sought d) × ¬ LeadsNearer row a p d) ⊎ ((now ≡ Found a.to) × LeadsNearer row a p d)

-- and after a look at the rows of all neighbours of v
abbrev pub IsAfterAll : (ℕ → ℕ → ℕ → Type 0) → List (List Entry) → ℕ → ℕ → Slot → Slot → Type 0
IsAfterAll J rows v p NoEntry now = now ≡ NoEntry
IsAfterAll J rows v p (Found via) now = now ≡ Found via
IsAfterAll J rows v p (Sought d) now = ((now ≡ Sought d) × ((z : ℕ) → ¬ IsNearer J rows v (entry_at p d) z)) ⊎ ((y : ℕ) × (now ≡ Found y) × IsFirstNearer J rows v (entry_at p d) y)

-- the arc at a place is the same as the one before it
abbrev pub IsRepeated : List Arc → ℕ → Type 0
IsRepeated arcs k = (0 < k) × (slice_index_or arcs (k - 1) no_arc ≡ slice_index_or arcs k no_arc)
