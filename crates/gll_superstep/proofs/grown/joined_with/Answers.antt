use Rattle.std.proofs.Common.{sym, subst}
use Rattle.gll_superstep.specs.Workers.{AreJoined}
use Rattle.gll_superstep.proofs.JoinedOutputs.{AreJoined-push}
use Rattle.gll_superstep.proofs.grown.joined_with.Goals as goal

pub invariant_of-result : goal.invariant_of-result
invariant_of-result g c =
    let first = c.joined.inside.superstep.value.table.first in
    let there = c.one.inside.superstep.value.table.first in
    subst (AreJoined g.B.Build.edges g.B.Build.order g.B.Build.shift g.B.Build.claims c.joined.inside.superstep.value.table.first c.join.new.seat) (sym c.in_ok-push.ensures.items)
    (AreJoined-push g.B.Build.edges g.B.Build.order g.B.Build.shift g.B.Build.claims first there c.joined.inside.seat c.one.inside.seat c.join.new.seat c.joined.inside.outputs.items c.one.inside.output
    c.joined.invariant c.one.invariant c.join.ensures.alike c.join.ensures.seat c.join.ensures.left c.join.ensures.got)
