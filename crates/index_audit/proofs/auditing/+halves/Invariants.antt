use Rattle.std.proofs.Common.{◌+◌, ◌*◌}
use Rattle.index_audit.proofs.auditing.+halves.Given as goal

-- each cut leaves one less
abbrev pub decreases-join+arg2 : goal.decreases-join+arg2
decreases-join+arg2 g l = 2 * l.below + 1

abbrev pub decreases-join+arg3 : goal.decreases-join+arg3
decreases-join+arg3 g l = 2 * l.below + 1

abbrev pub decreases-fault_between : goal.decreases-fault_between
decreases-fault_between g l = 2 * l.cuts
