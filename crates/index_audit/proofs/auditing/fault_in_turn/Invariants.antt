use Rattle.walk_laws.specs.Joined.{Joined}
use Rattle.index_audit.specs.Ranges.{AreSoundBetween}
use Rattle.index_audit.proofs.auditing.fault_in_turn.Given as goal

-- nothing is wrong with the rows so far
abbrev pub invariant-loop-place : goal.invariant-loop-place
invariant-loop-place g l = AreSoundBetween (Joined l.graph.edges) l.index.order l.index.rows (g.V.Beside.vias l.vias) l.from l.place
