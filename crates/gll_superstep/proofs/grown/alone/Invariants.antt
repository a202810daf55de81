use Rattle.std.proofs.Common.{◌≡◌}
use Rattle.gll_superstep.proofs.grown.alone.Given as goal

-- it is the same superstep
abbrev pub invariant-loop : goal.invariant-loop
invariant-loop g l = (goal.iterator-loop g).can_next l.iterator' × (goal.iterator-loop g).is_finite l.iterator' × (l.superstep.value ≡ l.fn.superstep.value)
