use Rattle.std.proofs.Common.{◌≡◌, true, false, ◌∙◌, sym, subst, length, rules, arith}
use Rattle.plant_build.specs.Gains.{GainsPart, IsOfBatch}
use Rattle.plant_build.specs.Marks.{mark}
use Rattle.plant_build.proofs.HeldParts.{missing_none, missing_skip, missing_planted, missing_all}
use Rattle.plant_build.proofs.build.plant_missing.Goals as goal

pub loop-batch-init : goal.loop-batch-init
loop-batch-init g c = record {
  planter = c.in_ok-planter.ensures ∙ c.n-n.ensures.value;
  sink = c.in_ok-sink.ensures.n ∙ c.n-n.ensures.value;
  holds = missing_none c.args.job.now.graph.now.edges c.args.job.now.ranking.now c.args.roots c.args.come.now c.in_ok-sink.sink c.in_ok-sink.ensures.empty;
}

pub loop-batch-preserved : goal.loop-batch-preserved
loop-batch-preserved g c =
    let missed : mark c.args.come.now c.loop-batch.batch ≡ false = search rules in
    let gains : GainsPart c.args.job.now.graph.now.edges c.args.job.now.ranking.now (IsOfBatch c.args.roots (length c.args.come.now) c.loop-batch.batch) c.loop-batch.sink c.plant_batch.new.sink = subst (λ B. GainsPart c.args.job.now.graph.now.edges c.args.job.now.ranking.now (IsOfBatch c.args.roots B c.loop-batch.batch) c.loop-batch.sink c.plant_batch.new.sink) (sym c.requires.marks) c.in_ok-plant_batch.ensures.gains in
    record {
      planter = c.in_ok-plant_batch.ensures.planter ∙ c.loop-batch.invariant.planter;
      sink = c.in_ok-plant_batch.ensures.sink ∙ c.loop-batch.invariant.sink;
      holds = missing_planted c.args.job.now.graph.now.edges c.args.job.now.ranking.now c.args.roots c.args.come.now c.loop-batch.batch c.loop-batch.sink c.plant_batch.new.sink missed c.loop-batch.invariant.holds gains;
    }

pub loop-batch-preserved-then-come-batch : goal.loop-batch-preserved-then-come-batch
loop-batch-preserved-then-come-batch g c =
    let marked : mark c.args.come.now c.loop-batch.batch ≡ true = search rules in
    record {
      planter = c.loop-batch.invariant.planter;
      sink = c.loop-batch.invariant.sink;
      holds = missing_skip c.args.job.now.graph.now.edges c.args.job.now.ranking.now c.args.roots c.args.come.now c.loop-batch.batch c.loop-batch.sink marked c.loop-batch.invariant.holds;
    }

pub returns-clause-missing : goal.returns-clause-missing
returns-clause-missing g c =
    missing_all c.args.job.now.graph.now.edges c.args.job.now.ranking.now c.args.roots c.args.come.now c.loop-batch.batch c.loop-batch.sink (omega (arith, c.requires.some, c.requires.marks)) (omega (arith, c.loop-batch-test.false, c.requires.marks)) c.loop-batch.invariant.holds
