use Rattle.std.proofs.Common.{◌≡◌, ◌-◌, ◌%◌}
use Rattle.plant_build.specs.Gains.{GainsPart}
use Rattle.plant_build.proofs.HeldParts.{IsBatchBelow}
use Rattle.plant_build.proofs.batch.plant_batch.Given as goal

-- the trees of the positions so far are planted
abbrev pub invariant-loop-p : goal.invariant-loop-p
invariant-loop-p g l = record {
  planter : l.planter ≡ l.fn.planter;
  sink : l.sink.n ≡ l.fn.sink.n;
  position : l.p % l.batches ≡ l.batch;
  gains : GainsPart l.job.graph.now.edges l.job.ranking.now (IsBatchBelow l.roots l.batches l.batch l.p) l.fn.sink l.sink;
}

abbrev pub decreases-loop-p : goal.decreases-loop-p
decreases-loop-p g l = l.roots - l.p
