use Rattle.std.proofs.Common.{◌+◌, ◌*◌}
use Rattle.label_clean.proofs.testing.+halves.Given as goal

-- each halving leaves one less
abbrev pub decreases-join+arg2 : goal.decreases-join+arg2
decreases-join+arg2 g l = 2 * l.below + 1

abbrev pub decreases-join+arg3 : goal.decreases-join+arg3
decreases-join+arg3 g l = 2 * l.below + 1

abbrev pub decreases-test_rows : goal.decreases-test_rows
decreases-test_rows g l = 2 * l.halvings
