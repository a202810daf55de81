use Rattle.std.proofs.Common.{◌≡◌, ◌+◌, ◌-◌, [], ◌++◌, ◌∷◌, ap, sym, subst, ◌∙◌, arith}
use Rattle.std.specs.Prelude.{Some}
use Rattle.gll_superstep.specs.Workers.{SuperstepView}
use Rattle.gll_superstep.specs.Workers.{AreSeatsOf}
use Rattle.gll_superstep.proofs.JoinedOutputs.{stays_at}
use Rattle.gll_superstep.proofs.MadeTasks.{one_made}
use Rattle.gll_superstep.proofs.superstep.tasks_on.Goals as goal

pub loop-preserved : goal.loop-preserved
loop-preserved g c =
    let was = c.loop.invariant in
    let one_more : c.args.context.now.workers - c.loop.counter ≡ c.args.context.now.workers - (c.loop.counter + 1) + 1 = omega (arith, c.loop-test.true) in
    record {
      at = stays_at c.args.context.now.claims.now c.loop.first.claims c.split_off-seats.new.seats.claims c.split_off-seats.ensures.at was.at;
      seats =
          subst (λ (f : SuperstepView). AreSeatsOf f.claims f.pool (c.args.context.now.workers - (c.loop.counter + 1)) c.split_off-seats.new.seats) c.deref.ensures
          (c.split_off-seats.ensures.seats (c.args.context.now.workers - (c.loop.counter + 1))
          (subst (λ (f : SuperstepView). AreSeatsOf f.claims f.pool (c.args.context.now.workers - (c.loop.counter + 1) + 1) c.loop.first) (sym c.deref.ensures)
          (subst (λ left. AreSeatsOf c.args.superstep.now.value.claims c.args.superstep.now.value.pool left c.loop.first) one_more was.seats)));
      new = c.split_off-seats.ensures.new;
      made =
          c.in_ok-add_task.ensures
          ∙ ap (λ ts. ts ++ Some c.args.superstep.now.value ∷ []) was.made
          ∙ one_made (c.loop.counter - 1) (c.loop.counter + 1 - 1) (Some c.args.superstep.now.value) (omega (arith, was.from_one));
      from_one = omega arith;
      within = omega (arith, c.loop-test.true);
    }

pub returns : goal.returns
returns g c =
    let was = c.loop.invariant in
    c.in_ok-add_task-2.ensures
    ∙ ap (λ ts. ts ++ Some c.args.superstep.now.value ∷ []) was.made
    ∙ one_made (c.loop.counter - 1) c.args.context.now.workers (Some c.args.superstep.now.value) (omega (arith, was.from_one, was.within, c.loop-test.false))
