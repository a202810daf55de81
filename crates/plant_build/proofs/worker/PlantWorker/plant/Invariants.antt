use Rattle.std.proofs.Common.{◌≡◌, true}
use Rattle.plant_build.specs.Rounds.{share_of}
use Rattle.plant_build.specs.Workers.{HasWorked}
use Rattle.plant_build.proofs.worker.PlantWorker.plant.Given as goal

-- it has planted the batches so far
abbrev pub invariant-loop : goal.invariant-loop
invariant-loop g l = record {
  worked : HasWorked l.job.graph.now.edges l.job.ranking.now l.roots l.batches l.job.graph.now.n l.self;
  memory : l.self.memory ≡ true;
  planter : l.self.planter ≡ l.job.graph.now.n;
  share : share_of l.self.hand ≡ share_of l.fn.self.hand;
}
