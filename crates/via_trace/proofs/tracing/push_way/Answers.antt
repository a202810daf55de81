use Rattle.std.proofs.Common.{arith}
use Rattle.via_trace.proofs.RowFacts.{one_distance, via_is_node}
use Rattle.via_trace.proofs.Ways.{GoesBy-there, HasCome-step, HasCome-any, HasCome-end, HasCome-breaks}
use Rattle.via_trace.proofs.tracing.push_way.Goals as goal

pub returns-in_default : goal.returns-in_default
returns-in_default c = λ hub place d there. absurd (c.in_default.ensures d there)

pub entry_of-requires-in-loop-left-clause-node : goal.entry_of-requires-in-loop-left-clause-node
entry_of-requires-in-loop-left-clause-node c =
    (via_is_node c.args.traced.now c.requires.well_formed c.loop-left.at c.loop-left.invariant.from_one c.loop-left.invariant.up_to_n c.requires.have_vias c.args.pos c.loop-left.left c.loop-left.via (omega (arith, c.loop-left-test.true)) c.loop-left.invariant.goes).0

pub entry_of-requires-in-loop-left-clause-within : goal.entry_of-requires-in-loop-left-clause-within
entry_of-requires-in-loop-left-clause-within c =
    (via_is_node c.args.traced.now c.requires.well_formed c.loop-left.at c.loop-left.invariant.from_one c.loop-left.invariant.up_to_n c.requires.have_vias c.args.pos c.loop-left.left c.loop-left.via (omega (arith, c.loop-left-test.true)) c.loop-left.invariant.goes).1

pub loop-left-preserved : goal.loop-left-preserved
loop-left-preserved c =
    let was = c.loop-left.invariant in
    let node = via_is_node c.args.traced.now c.requires.well_formed c.loop-left.at was.from_one was.up_to_n c.requires.have_vias c.args.pos c.loop-left.left c.loop-left.via (omega (arith, c.loop-left-test.true)) was.goes in
    HasCome-step c.args.traced.now c.args.pos c.args.u c.in-Some.left c.args.nodes.now.items c.loop-left.nodes.items c.push-in-Some-entry_of.new.self.items c.loop-left.at c.loop-left.left c.loop-left.via c.in-Some-entry_of.dist c.in-Some-entry_of.next
    was c.in_ok-push-in-Some-entry_of.ensures.items c.in-Some-entry_of.ensures c.if-dist-left.true node.0 node.1

pub returns-in_default-entry_of : goal.returns-in_default-entry_of
returns-in_default-entry_of c = λ d there.
    let traced = c.args.traced.now in
    let p = c.args.pos in
    let well = c.requires.well_formed in
    let front = c.args.nodes.now.items in
    let nodes = c.loop-left.nodes.items in
    let at = c.loop-left.at in
    let left = c.loop-left.left in
    let via = c.loop-left.via in
    let was = c.loop-left.invariant in
    let node = via_is_node traced well at was.from_one was.up_to_n c.requires.have_vias p left via (omega (arith, c.loop-left-test.true)) was.goes in
    let first = GoesBy-there traced p c.args.u c.in-Some.left c.in-Some.via c.in-Some.ensures in
    let here = HasCome-any traced p c.args.u c.in-Some.left d front nodes at left via well c.requires.node c.requires.within first there was in
    let found = GoesBy-there traced p via c.in-Some-entry_of.dist c.in-Some-entry_of.next c.in-Some-entry_of.ensures in
    HasCome-breaks traced p c.args.u d front nodes at left via here (omega (arith, c.loop-left-test.true))
    (λ e stands nearer. omega (arith, one_distance traced well via node.0 node.1 p c.in-Some-entry_of.dist e found stands, nearer, c.if-dist-left.false))

pub returns-in_default-entry_of-2 : goal.returns-in_default-entry_of-2
returns-in_default-entry_of-2 c = λ d there.
    let traced = c.args.traced.now in
    let p = c.args.pos in
    let was = c.loop-left.invariant in
    let first = GoesBy-there traced p c.args.u c.in-Some.left c.in-Some.via c.in-Some.ensures in
    let here = HasCome-any traced p c.args.u c.in-Some.left d c.args.nodes.now.items c.loop-left.nodes.items c.loop-left.at c.loop-left.left c.loop-left.via c.requires.well_formed c.requires.node c.requires.within first there was in
    let none = rw c.in_default-entry_of.is at c.entry_of-in-loop-left.ensures in
    HasCome-breaks traced p c.args.u d c.args.nodes.now.items c.loop-left.nodes.items c.loop-left.at c.loop-left.left c.loop-left.via here (omega (arith, c.loop-left-test.true)) (λ e stands nearer. none e stands)

pub returns : goal.returns
returns c = λ hub place d there.
    let traced = c.args.traced.now in
    let p = c.args.pos in
    let first = GoesBy-there traced p c.args.u c.in-Some.left c.in-Some.via c.in-Some.ensures in
    let here = HasCome-any traced p c.args.u c.in-Some.left d c.args.nodes.now.items c.loop-left.nodes.items c.loop-left.at c.loop-left.left c.loop-left.via c.requires.well_formed c.requires.node c.requires.within first there c.loop-left.invariant in
    (here.way, HasCome-end traced p c.args.u d c.args.nodes.now.items c.loop-left.nodes.items c.loop-left.at c.loop-left.left c.loop-left.via hub c.requires.well_formed here (omega (arith, c.loop-left-test.false)) place, here.pushed)
