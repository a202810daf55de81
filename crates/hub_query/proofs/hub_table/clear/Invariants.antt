use Rattle.std.proofs.Common.{◌≡◌, length, drop}
use Rattle.hub_query.proofs.HeldRows.{HoldsNoMore}
use Rattle.hub_query.proofs.hub_table.clear.Given as goal

-- the table holds no more than the entries to come
abbrev pub invariant-loop-entry : goal.invariant-loop-entry
invariant-loop-entry l = record {
  size : length l.table ≡ length l.fn.table;
  rest : HoldsNoMore (drop l.entry-index l.row) l.table;
}
