use Rattle.pool_view.proofs.Chained.{AreEmptied}
use Rattle.pool_view.proofs.chains.Chains.clear.Given as goal

-- the heads of the entries so far are none
abbrev pub invariant-loop-entry : goal.invariant-loop-entry
invariant-loop-entry l = AreEmptied l.entries l.fn.self l.entry-index l.self
