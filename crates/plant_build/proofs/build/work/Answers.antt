use Rattle.std.proofs.Common.{subst, sym, ap, ◌∙◌, rules}
use Rattle.plant_build.specs.declared.worker.PlantWorker.{PlantWorker}
use Rattle.plant_build.specs.Rounds.{share_of}
use Rattle.plant_build.specs.Workers.{HasWorked}
use Rattle.plant_build.proofs.Harvests.{same_map, shares_map}
use Rattle.plant_build.proofs.build.work.Goals as goal

pub returns-clause-worked : goal.returns-clause-worked
returns-clause-worked g c i d lt =
    let changed = (c.for_each_mut.ensures i d (search rules)).1 in
    subst (HasWorked c.args.job.now.graph.now.edges c.args.job.now.ranking.now c.args.roots c.args.batches c.args.job.now.graph.now.n) changed.left changed.call.0

pub returns-clause-shares : goal.returns-clause-shares
returns-clause-shares g c =
    let old = c.args.crew.now in
    let new = c.for_each_mut.new.s in
    shares_map new ∙ same_map (λ (w : PlantWorker). share_of w.hand) old new (search rules)
    (λ i d within.
    let changed = (c.for_each_mut.ensures i d within).1 in
    sym (ap (λ (w : PlantWorker). share_of w.hand) changed.left) ∙ changed.call.1 ∙ ap (λ (w : PlantWorker). share_of w.hand) changed.argument_is) ∙ sym (shares_map old)
