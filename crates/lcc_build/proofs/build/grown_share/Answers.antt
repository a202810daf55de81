use Rattle.std.proofs.Common.{◌≡◌, All, length, sym, ap, subst, ◌∙◌, arith}
use Rattle.label_clean.proofs.RowItems.{take_filled}
use Rattle.lcc_build.specs.Shares.{IsReady, HasWorked}
use Rattle.lcc_build.proofs.build.grown_share.Goals as goal

pub grow_all-requires-clause-ready : goal.grow_all-requires-clause-ready
grow_all-requires-clause-ready g c κs within = subst (All (IsReady c.args.ground.now)) (sym c.as_mut_slice.ensures.value) c.in_ok-seats.ensures.ready

pub joined-requires-clause-worked : goal.joined-requires-clause-worked
joined-requires-clause-worked g c =
    let size : length c.grow_all.new.seats ≡ length c.in_ok-seats.seats.items = c.grow_all.ensures.size ∙ ap length c.as_mut_slice.ensures.value in
    let long : length c.in_ok-seats.seats.items ≡ c.in_ok-seats.seats.len = omega (arith, ap length c.as_mut_slice.ensures.value, c.as_mut_slice.ensures.len) in
    subst (All (HasWorked c.args.ground.now)) (sym (take_filled c.in_ok-seats.seats.len c.grow_all.new.seats c.in_ok-seats.seats.items size long)) c.grow_all.ensures.worked
