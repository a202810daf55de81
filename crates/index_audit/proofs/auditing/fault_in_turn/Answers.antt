use Rattle.std.proofs.Common.{arith}
use Rattle.walk_laws.specs.Joined.{Joined}
use Rattle.index_audit.proofs.JoinedRanges.{AreSoundBetween-one_more, IsFirstBetween-next}
use Rattle.index_audit.proofs.auditing.fault_in_turn.Goals as goal

pub returns-in-Some : goal.returns-in-Some
returns-in-Some g c =
    IsFirstBetween-next (Joined c.args.graph.now.edges) c.args.index.now.order c.args.index.now.rows (g.V.Beside.vias c.args.vias.now) c.args.from c.loop-place.place c.args.to c.in-Some.fault c.loop-place.auto.place c.loop-place-test.true c.loop-place.invariant c.in-Some.ensures

pub loop-place-preserved : goal.loop-place-preserved
loop-place-preserved g c =
    AreSoundBetween-one_more (Joined c.args.graph.now.edges) c.args.index.now.order c.args.index.now.rows (g.V.Beside.vias c.args.vias.now) c.args.from c.loop-place.place c.loop-place.invariant c.in_default.ensures

pub returns : goal.returns
returns g c = λ x after up_to. c.loop-place.invariant x after (omega (arith, up_to, c.loop-place-test.false))
