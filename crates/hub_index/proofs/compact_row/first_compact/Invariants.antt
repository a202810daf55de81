use Rattle.std.proofs.Common.{All, take}
use Rattle.hub_index.specs.CompactRows.{widened}
use Rattle.hub_index.specs.Reach.{IsBelow}
use Rattle.hub_index.proofs.compact_row.first_compact.Given as goal

-- the entries so far are below the limit
abbrev pub invariant-loop-entry : goal.invariant-loop-entry
invariant-loop-entry l = All (λ e. IsBelow l.limit (widened e)) (take l.entry-index l.row)
