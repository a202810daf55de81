use Rattle.std.proofs.Common.{◌≡◌}
use Rattle.entry_sinks.specs.Sunk.{sunk_at, HoldsPart}
use Rattle.plant_build.proofs.HeldParts.{IsMissingBelow}
use Rattle.plant_build.proofs.build.plant_missing.Given as goal

-- of the batches so far those that are missing are planted
abbrev pub invariant-loop-batch : goal.invariant-loop-batch
invariant-loop-batch g l = record {
  planter : l.planter ≡ l.job.graph.now.n;
  sink : l.sink.n ≡ l.job.graph.now.n;
  holds : HoldsPart l.job.graph.now.edges l.job.ranking.now (IsMissingBelow l.roots l.come l.batch) (sunk_at l.sink);
}
