use Rattle.std.proofs.Common.{◌<◌, All, sym, subst, ap, ◌∙◌, arith}
use Rattle.std.proofs.lemmas.List.Elements.{All-push}
use Rattle.plant_build.specs.Balance.{times}
use Rattle.plant_build.proofs.HandLists.{times_push}
use Rattle.plant_build.specs.Gains.{HoldsBatches}
use Rattle.plant_build.proofs.HeldParts.{HoldsBatches-more}
use Rattle.plant_build.proofs.worker.PlantWorker.plant_one.Goals as goal

pub returns-clause-worked : goal.returns-clause-worked
returns-clause-worked g c =
    let edges = c.args.job.now.graph.now.edges in
    let at = c.args.job.now.ranking.now in
    let old = c.args.self.now in
    record {
      sink = c.in_ok-plant_batch.ensures.sink ∙ c.requires.worked.sink;
      holds = λ memory. subst (λ numbers. HoldsBatches edges at c.args.roots c.args.batches numbers c.plant_batch.new.sink) (sym c.in_ok-push.ensures.items)
          (HoldsBatches-more edges at c.args.roots c.args.batches c.args.batch old.numbers.items old.sink c.plant_batch.new.sink (c.requires.worked.holds c.requires.memory) c.in_ok-plant_batch.ensures.gains);
      took = record {
        below = subst (All (λ b. b < c.args.batches)) (sym c.in_ok-push.ensures.items) (All-push (λ b. b < c.args.batches) old.numbers.items c.args.batch c.requires.worked.took.below c.requires.batch);
        took = λ x. omega (arith, ap (times x) c.in_ok-push.ensures.items, times_push x old.numbers.items c.args.batch, c.requires.took x);
      };
    }
