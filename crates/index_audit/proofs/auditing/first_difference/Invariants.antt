use Rattle.std.proofs.Common.{◌≡◌, take}
use Rattle.index_audit.proofs.auditing.first_difference.Given as goal

abbrev pub invariant-loop-place : goal.invariant-loop-place
invariant-loop-place l = take l.place l.ranking ≡ take l.place l.other
