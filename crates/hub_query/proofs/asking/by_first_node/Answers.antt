use Rattle.hub_query.proofs.Placed.{InOrder-next, ArePlaces-sorted}
use Rattle.hub_query.proofs.asking.by_first_node.Goals as goal

pub loop-place-preserved : goal.loop-place-preserved
loop-place-preserved c =
    rw c.in_ok-push.ensures.items (InOrder-next c.args.pairs.now c.loop-place.places.items c.loop-place.place c.loop-place-test.true c.loop-place.invariant)

pub returns : goal.returns
returns c =
    ArePlaces-sorted c.args.pairs.now c.loop-place.places.items _ c.loop-place.place c.loop-place-test.false c.loop-place.invariant c.sort_unstable.ensures.permutation
