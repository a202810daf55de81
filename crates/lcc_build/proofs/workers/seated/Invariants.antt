use Rattle.std.proofs.Common.{◌≡◌, ℕ, ◌+◌, All, vec_len}
use Rattle.lcc_build.specs.Shares.{IsShareOf, IsNew, IsReady}
use Rattle.lcc_build.proofs.workers.seated.Given as goal

-- a worker less is to come for each that is ready
abbrev pub invariant-loop : goal.invariant-loop
invariant-loop l = record {
  share : (left : ℕ) × (left + l.counter ≡ l.ground.job.now.workers) × IsShareOf l.ground left l.first;
  new : IsNew l.first;
  size : vec_len l.seated + 1 ≡ l.counter;
  ready : All (IsReady l.ground) l.seated.items;
}
