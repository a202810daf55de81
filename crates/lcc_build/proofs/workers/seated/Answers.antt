use Rattle.std.proofs.Common.{◌≡◌, ◌+◌, ◌-◌, All, refl, sym, subst, ◌∙◌, arith}
use Rattle.std.specs.Prelude.{Some}
use Rattle.std.proofs.lemmas.List.Elements.{All-push}
use Rattle.lcc_build.specs.Shares.{IsShareOf, IsReady}
use Rattle.lcc_build.proofs.workers.seated.Goals as goal

pub loop-preserved : goal.loop-preserved
loop-preserved c =
    let share = c.loop.invariant.share in
    let more : share.0 - 1 + 1 ≡ share.0 = omega (arith, share.1, c.loop-test.true) in
    let Ready = IsReady c.args.ground.now in
    record {
      share = (share.0 - 1, omega (arith, share.1, more), c.split_off-share.ensures.share (share.0 - 1) (subst (λ left. IsShareOf c.args.ground.now left c.loop.first) (sym more) share.2));
      new = c.split_off-share.ensures.new;
      size = omega (arith, c.in_ok-push.ensures.len, c.loop.invariant.size);
      ready = subst (All Ready) (sym c.in_ok-push.ensures.items)
          (All-push Ready c.loop.seated.items (record { share = Some c.split_off-share.result; work = c.in_ok-work.work }) c.loop.invariant.ready
          (record { share = c.split_off-share.result; there = refl; of = c.split_off-share.ensures.split.0; new = c.split_off-share.ensures.split.1; work = c.in_ok-work.ensures ∙ c.n.ensures.value }));
    }

pub returns-clause-ready : goal.returns-clause-ready
returns-clause-ready c =
    let share = c.loop.invariant.share in
    let none : share.0 ≡ 0 = omega (arith, share.1, c.loop-test.false) in
    let Ready = IsReady c.args.ground.now in
    subst (All Ready) (sym c.in_ok-push-2.ensures.items)
    (All-push Ready c.loop.seated.items (record { share = Some c.loop.first; work = c.in_ok-work-2.work }) c.loop.invariant.ready
    (record { share = c.loop.first; there = refl; of = subst (λ left. IsShareOf c.args.ground.now left c.loop.first) none share.2; new = c.loop.invariant.new; work = c.in_ok-work-2.ensures ∙ c.n-2.ensures.value }))
