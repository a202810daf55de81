use Rattle.std.proofs.Common.{arith}
use Rattle.walk_laws.specs.Joined.{Joined}
use Rattle.walk_laws.proofs.JoinedEdges.{IsEdge-joined}
use Rattle.hub_query.proofs.Onward.{HasCome-step, HasCome-end}
use Rattle.hub_query.proofs.walking.walk.Goals as goal

pub loop-at-preserved : goal.loop-at-preserved
loop-at-preserved c =
    let a = c.in-Some.arc in
    let on = c.in-Some.ensures in
    let is = IsEdge-joined c.args.graph.now.n c.args.graph.now.edges c.loop-at.at a.to a.w c.requires.graph.edge on.arc in
    rw (c.in_ok-push.ensures.items, c.from-left.ensures)
    (HasCome-step (Joined c.args.graph.now.edges) c.args.index.now c.args.v c.args.u c.args.far c.loop-at.nodes.items c.loop-at.at c.loop-at.left a c.loop-at.invariant c.loop-at-test.true on is.to_one (omega (arith, is.to_n, c.requires.size)))

pub returns : goal.returns
returns c =
    (c.requires.size, rw c.new.ensures (HasCome-end (Joined c.args.graph.now.edges) c.args.index.now c.args.v c.args.u c.args.far c.loop-at.nodes.items c.loop-at.at c.loop-at.left c.requires.well_formed c.requires.far c.loop-at.invariant c.loop-at-test.false))
