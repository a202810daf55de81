use Rattle.walk_laws.specs.Joined.{Joined}
use Rattle.hub_query.proofs.Onward.{HasCome}
use Rattle.hub_query.proofs.walking.walk.Given as goal

abbrev pub invariant-loop-at : goal.invariant-loop-at
invariant-loop-at l = HasCome (Joined l.graph.edges) l.index l.v l.u l.far l.nodes.items l.at l.left

abbrev pub decreases-loop-at : goal.decreases-loop-at
decreases-loop-at l = l.left
