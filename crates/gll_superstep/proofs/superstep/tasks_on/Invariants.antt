use Rattle.std.proofs.Common.{◌≡◌, ◌-◌, ◌≤◌, replicate}
use Rattle.std.specs.Prelude.{Some}
use Rattle.root_claims.specs.Seats.{IsSeatAt}
use Rattle.gll_superstep.specs.Workers.{AreNew, AreSeatsOf}
use Rattle.gll_superstep.proofs.superstep.tasks_on.Given as goal

-- so many seats may still be split from the first ones, and a task less than the counter says is made
abbrev pub invariant-loop : goal.invariant-loop
invariant-loop g l = record {
  at : IsSeatAt l.context.claims.now l.first.claims;
  seats : AreSeatsOf l.superstep.value.claims l.superstep.value.pool (l.context.workers - l.counter) l.first;
  new : AreNew l.first;
  made : l.tasks.items ≡ replicate (l.counter - 1) (Some l.superstep.value);
  from_one : 1 ≤ l.counter;
  within : l.counter ≤ l.context.workers;
}
