use Rattle.plant_build.proofs.Askings.{asked_gives, asked_on, asked_all}
use Rattle.plant_build.proofs.hand.steal_any.Goals as goal

pub returns-in-Some : goal.returns-in-Some
returns-in-Some g c = asked_gives c.args.others.now _ _ c.other-item.result _ _ c.loop-other-test.true c.loop-other.invariant c.in-Some.ensures

pub loop-other-preserved : goal.loop-other-preserved
loop-other-preserved g c = asked_on c.args.others.now _ _ c.other-item.result _ c.loop-other-test.true c.loop-other.invariant c.in_default.ensures

pub returns : goal.returns
returns g c = asked_all c.args.others.now _ _ c.loop-other-test.false c.loop-other.invariant
