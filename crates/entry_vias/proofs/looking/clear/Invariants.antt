use Rattle.std.proofs.Common.{◌≡◌, length, drop}
use Rattle.entry_vias.specs.Slots.{HoldsNoOther}
use Rattle.entry_vias.proofs.looking.clear.Given as goal

-- the table has nothing but entries to come
abbrev pub invariant-loop-entry : goal.invariant-loop-entry
invariant-loop-entry l = record {
  size : length l.table ≡ length l.fn.table;
  rest : HoldsNoOther (drop l.entry-index l.row) l.table;
}
