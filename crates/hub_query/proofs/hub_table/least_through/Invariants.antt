use Rattle.hub_query.proofs.Through.{Through}
use Rattle.hub_query.proofs.hub_table.least_through.Given as goal

-- the best sum of the entries so far
abbrev pub invariant-loop-entry : goal.invariant-loop-entry
invariant-loop-entry l = Through l.table l.row l.entry-index l.pos l.least
