use Rattle.std.proofs.Common.{◌-◌, ◌*◌}
use Rattle.gll_build.proofs.workers.+workers.Given as goal

-- one worker less each time
abbrev pub decreases-all_work : goal.decreases-all_work
decreases-all_work g l = 3 * l.workers

abbrev pub decreases-work_beside : goal.decreases-work_beside
decreases-work_beside g l = 3 * l.workers - 1

abbrev pub decreases-work_beside-rest : goal.decreases-work_beside-rest
decreases-work_beside-rest g l = 3 * l.workers - 2
