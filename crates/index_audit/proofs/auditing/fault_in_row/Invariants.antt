use Rattle.walk_laws.specs.Joined.{Joined}
use Rattle.index_audit.specs.Audited.{AreSoundUpTo}
use Rattle.index_audit.proofs.auditing.fault_in_row.Given as goal

-- nothing is wrong with the entries so far
abbrev pub invariant-loop-place : goal.invariant-loop-place
invariant-loop-place g l = AreSoundUpTo (Joined l.graph.edges) l.index.order l.index.rows (g.V.Beside.vias l.vias) l.v l.place
