use Rattle.std.proofs.Common.{get_or, take}
use Rattle.std.proofs.lemmas.List.{take_more}
use Rattle.hub_query.specs.Meant.{IsMeetOf}
use Rattle.hub_query.proofs.Placed.{AllZip-one_more}
use Rattle.hub_query.proofs.asking.ask_each.Goals as goal

pub loop-pair-preserved : goal.loop-pair-preserved
loop-pair-preserved c =
    let i = c.loop-pair.pair-index in
    let pairs = c.args.pairs.now in
    rw (take_more pairs i (0, 0) c.loop-pair-test.true, c.in_ok-push.ensures.items)
    (AllZip-one_more (IsMeetOf c.args.index.now) (take i pairs) c.loop-pair.answers.items (get_or pairs i (0, 0)) c.ask.result c.loop-pair.invariant c.ask.ensures.meet)
