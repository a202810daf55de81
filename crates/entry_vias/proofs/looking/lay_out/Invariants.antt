use Rattle.std.proofs.Common.{◌≡◌, length, take}
use Rattle.entry_vias.specs.Slots.{IsLaidOut, sought_in}
use Rattle.entry_vias.proofs.looking.lay_out.Given as goal

-- the entries so far are laid out
abbrev pub invariant-loop-entry : goal.invariant-loop-entry
invariant-loop-entry l = record {
  size : length l.table ≡ length l.fn.table;
  row : IsLaidOut (take l.entry-index l.row) l.table;
  sought : l.sought ≡ sought_in l.table;
}
