use Rattle.walk_laws.specs.Joined.{Joined}
use Rattle.index_audit.proofs.Around.{HaveTold}
use Rattle.index_audit.proofs.neighbours.look_around.Given as goal

-- what the arcs so far have told
abbrev pub invariant-loop-arc : goal.invariant-loop-arc
invariant-loop-arc l = HaveTold (Joined l.graph.edges) l.index.rows l.v l.arc-items l.hub l.entry l.arc-index l.nearer l.uncovered
