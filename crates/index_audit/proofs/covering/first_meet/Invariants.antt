use Rattle.index_audit.proofs.Meets.{HasMissed}
use Rattle.index_audit.proofs.covering.first_meet.Given as goal

abbrev pub invariant-loop-entry : goal.invariant-loop-entry
invariant-loop-entry l = HasMissed l.first l.second l.dist l.entry-index l.from
