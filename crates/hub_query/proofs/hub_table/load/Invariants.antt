use Rattle.std.proofs.Common.{◌≡◌, length, take}
use Rattle.hub_query.specs.HubTables.{HoldsRow}
use Rattle.hub_query.proofs.hub_table.load.Given as goal

-- the table holds the entries so far
abbrev pub invariant-loop-entry : goal.invariant-loop-entry
invariant-loop-entry l = record {
  size : length l.table ≡ length l.fn.table;
  row : HoldsRow (take l.entry-index l.row) l.table;
}
