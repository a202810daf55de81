use Rattle.std.proofs.Common.{◌≡◌, ℕ, ◌+◌, All, vec_len}
use Rattle.lcc_build.specs.Shares.{IsShareOf, IsDone, HasWorked}
use Rattle.lcc_build.proofs.workers.joined.Given as goal

-- the shares of the workers that were taken so far are one, and the others have worked
abbrev pub invariant-loop-worker : goal.invariant-loop-worker
invariant-loop-worker l = record {
  share : (left : ℕ) × (left + 1 + vec_len l.workers ≡ vec_len l.fn.workers) × IsShareOf l.ground left l.whole;
  done : IsDone l.ground.job.now.graph.now.edges l.ground.job.now.ranking.now l.whole;
  worked : All (HasWorked l.ground) l.workers.items;
}

abbrev pub decreases-loop-worker : goal.decreases-loop-worker
decreases-loop-worker l = vec_len l.workers
