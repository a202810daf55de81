use Rattle.std.proofs.Common.{◌≡◌, ℕ, ◌+◌, length, take}
use Rattle.entry_vias.specs.Slots.{IsAfterLook, slot_at, sought_in}
use Rattle.entry_vias.proofs.looking.look_at.Given as goal

-- the entries so far were looked at
abbrev pub invariant-loop-entry : goal.invariant-loop-entry
invariant-loop-entry l = record {
  size : length l.table ≡ length l.fn.table;
  each : (p : ℕ) → IsAfterLook (take l.entry-index l.row) l.arc p (slot_at l.fn.table p) (slot_at l.table p);
  found : sought_in l.table + l.found ≡ sought_in l.fn.table;
}
