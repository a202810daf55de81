use Rattle.std.proofs.Common.{◌+◌, ◌*◌}
use Rattle.entry_vias.proofs.making.+halves.Given as goal

-- each half has fewer threads
abbrev pub decreases-join+arg2 : goal.decreases-join+arg2
decreases-join+arg2 g l = 2 * l.half + 1

abbrev pub decreases-join+arg3 : goal.decreases-join+arg3
decreases-join+arg3 g l = 2 * l.others + 1

abbrev pub decreases-vias_by : goal.decreases-vias_by
decreases-vias_by g l = 2 * l.threads
