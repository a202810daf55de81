use Rattle.std.proofs.Common.{◌+◌, ◌*◌}
use Rattle.index_file.proofs.runs.+halves.Given as goal

-- each half has fewer workers
abbrev pub decreases-join+arg2 : goal.decreases-join+arg2
decreases-join+arg2 g l = 2 * l.half + 1

abbrev pub decreases-join+arg3 : goal.decreases-join+arg3
decreases-join+arg3 g l = 2 * l.others + 1

abbrev pub decreases-encode_runs : goal.decreases-encode_runs
decreases-encode_runs g l = 2 * l.workers
