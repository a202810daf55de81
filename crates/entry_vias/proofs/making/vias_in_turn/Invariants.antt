use Rattle.std.proofs.Common.{◌≡◌, length}
use Rattle.walk_laws.specs.Joined.{Joined}
use Rattle.entry_vias.specs.ViaRanges.{AreViasFrom}
use Rattle.entry_vias.specs.Slots.{IsEmpty}
use Rattle.entry_vias.proofs.making.vias_in_turn.Given as goal

-- the vias of the rows so far
abbrev pub invariant-loop-place : goal.invariant-loop-place
invariant-loop-place l = record {
  size : length l.table.items ≡ length l.index.order;
  empty : IsEmpty l.table.items;
  vias : AreViasFrom (Joined l.graph.edges) l.index.rows l.from l.place l.vias;
}
