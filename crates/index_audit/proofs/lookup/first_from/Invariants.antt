use Rattle.std.proofs.Common.{◌≤◌, ◌-◌, length}
use Rattle.index_audit.specs.Places.{BelowUpTo}
use Rattle.index_audit.proofs.lookup.first_from.Given as goal

abbrev pub invariant-loop-place : goal.invariant-loop-place
invariant-loop-place l = record { within : l.place ≤ length l.row; passed : BelowUpTo l.row l.place l.pos }

abbrev pub decreases-loop-place : goal.decreases-loop-place
decreases-loop-place l = length l.row - l.place
