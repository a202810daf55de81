use Rattle.std.proofs.Common.{refl, ◌∙◌, arith}
use Rattle.std.proofs.Math.Nat.{mod-eq_of_lt, add-mod_right}
use Rattle.plant_build.proofs.HeldParts.{batch_none, batch_more, batch_all}
use Rattle.plant_build.proofs.batch.plant_batch.Goals as goal

pub loop-p-init : goal.loop-p-init
loop-p-init g c = record {
  planter = refl;
  sink = refl;
  position = mod-eq_of_lt c.requires.batch;
  gains = batch_none c.args.job.now.graph.now.edges c.args.job.now.ranking.now c.args.roots c.args.batches c.args.batch c.args.sink.now c.requires.batch;
}

pub overflow_add-p : goal.overflow_add-p
overflow_add-p g c = omega (arith, c.n-n.ensures.graph.small, c.loop-p-test.true, c.requires.roots, c.args.job.now.nodes, c.requires.batches)

pub loop-p-preserved : goal.loop-p-preserved
loop-p-preserved g c = record {
  planter = c.in_ok-plant_root.ensures.planter ∙ c.loop-p.invariant.planter;
  sink = c.in_ok-plant_root.ensures.sink ∙ c.loop-p.invariant.sink;
  position = add-mod_right c.loop-p.p c.args.batches ∙ c.loop-p.invariant.position;
  gains = batch_more c.args.job.now.graph.now.edges c.args.job.now.ranking.now c.args.roots c.args.batches c.args.batch c.loop-p.p c.args.sink.now c.loop-p.sink c.plant_root.new.sink (omega (arith, c.requires.batch)) c.loop-p-test.true c.loop-p.invariant.position c.loop-p.invariant.gains c.in_ok-plant_root.ensures.gains;
}

pub returns-clause-gains : goal.returns-clause-gains
returns-clause-gains g c =
    batch_all c.args.job.now.graph.now.edges c.args.job.now.ranking.now c.args.roots c.args.batches c.args.batch c.loop-p.p c.args.sink.now c.loop-p.sink (omega (arith, c.loop-p-test.false)) c.loop-p.invariant.gains
