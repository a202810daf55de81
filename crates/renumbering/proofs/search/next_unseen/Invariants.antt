use Rattle.std.proofs.Common.{◌-◌, length}
use Rattle.renumbering.proofs.search.next_unseen.Given as goal

abbrev pub decreases-loop-v : goal.decreases-loop-v
decreases-loop-v l = length l.seen - l.v
