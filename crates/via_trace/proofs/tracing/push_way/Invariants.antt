use Rattle.via_trace.proofs.Ways.{HasCome}
use Rattle.via_trace.proofs.tracing.push_way.Given as goal

-- the nodes so far
abbrev pub invariant-loop-left : goal.invariant-loop-left
invariant-loop-left l = HasCome l.traced l.pos l.u l.initial.left l.fn.nodes.items l.nodes.items l.at l.left l.via

abbrev pub decreases-loop-left : goal.decreases-loop-left
decreases-loop-left l = l.left
