use Rattle.std.proofs.Common.{length, drop, ◌+◌, ◌-◌, ◌^◌}
use Rattle.hub_query.proofs.Walked.{Walked}
use Rattle.hub_query.proofs.meeting.least_short_sum.Given as goal

-- what is left of the rows, and the best sum of what is after
abbrev pub invariant-loop-i : goal.invariant-loop-i
invariant-loop-i l = Walked (2 ^ 64 - 1) l.first l.second (drop l.i l.first) (drop l.j l.second) l.pos l.least

abbrev pub decreases-loop-i : goal.decreases-loop-i
decreases-loop-i l = (length l.first - l.i) + (length l.second - l.j)
