use Rattle.hub_query.proofs.Placed.{InOrder}
use Rattle.hub_query.proofs.asking.by_first_node.Given as goal

-- the places so far, in order
abbrev pub invariant-loop-place : goal.invariant-loop-place
invariant-loop-place l = InOrder l.pairs l.places.items l.place
