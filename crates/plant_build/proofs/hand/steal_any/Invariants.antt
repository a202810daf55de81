use Rattle.std.proofs.Common.{◌≡◌}
use Rattle.plant_build.proofs.Askings.{emptied}
use Rattle.plant_build.proofs.hand.steal_any.Given as goal

-- the deques so far were found empty
abbrev pub invariant-loop-other : goal.invariant-loop-other
invariant-loop-other g l = l.other-items ≡ emptied l.other-index l.initial.other-items
