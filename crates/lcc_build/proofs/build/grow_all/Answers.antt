use Rattle.std.proofs.Common.{sym, subst, arith}
use Rattle.lcc_build.specs.Shares.{IsReady, HasWorked}
use Rattle.lcc_build.proofs.build.grow_all.Goals as goal

pub for_each_mut-requires-clause-accepts : goal.for_each_mut-requires-clause-accepts
for_each_mut-requires-clause-accepts g c κs within =
    λ i p lt is. (c.requires.ground, subst (IsReady c.args.ground.now) (sym is) (c.requires.ready i p.now lt))

pub returns-clause-worked : goal.returns-clause-worked
returns-clause-worked g c = λ k d lt.
    let call = (c.for_each_mut.ensures k d (omega (arith, lt, c.for_each_mut.auto.s))).1 in
    subst (HasWorked c.args.ground.now) call.left call.call
