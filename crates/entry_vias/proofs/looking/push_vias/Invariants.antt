use Rattle.std.proofs.Common.{◌≡◌, ◌++◌, map, take}
use Rattle.entry_vias.specs.Slots.{slot_at, via_in}
use Rattle.entry_vias.proofs.looking.push_vias.Given as goal

-- the vias of the entries so far
abbrev pub invariant-loop-entry : goal.invariant-loop-entry
invariant-loop-entry l = l.vias.items ≡ l.fn.vias.items ++ map (λ e. via_in (slot_at l.table e.pos)) (take l.entry-index l.row)
