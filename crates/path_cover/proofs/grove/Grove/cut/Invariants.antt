use Rattle.std.proofs.Common.{◌-◌}
use Rattle.path_cover.proofs.grove.Grove.cut.Given as goal

abbrev pub decreases-loop-at : goal.decreases-loop-at
decreases-loop-at l = l.end - l.at
