use Rattle.std.proofs.Common.{◌≡◌, true, [], ◌∷◌, ◌++◌, List, All, map, subst, sym, ap, ◌∙◌, append_assoc, rules}
use Rattle.std.proofs.lemmas.List.Elements.{All-cons}
use Rattle.plant_build.specs.declared.collecting.Harvest.{Harvest}
use Rattle.plant_build.specs.declared.hand.Hand.{Hand}
use Rattle.plant_build.specs.declared.worker.PlantWorker.{PlantWorker}
use Rattle.plant_build.specs.Workers.{hands_of}
use Rattle.plant_build.specs.Harvest.{harvest_of}
use Rattle.plant_build.proofs.collecting.apart.Goals as goal

pub loop-worker-preserved : goal.loop-worker-preserved
loop-worker-preserved c =
    let so_far = c.loop-worker.invariant in
    let worker = c.in-Some.worker in
    let rest = c.next.new.self.rest.items in
    let seen = c.in-Some.ensures.steps.0 in
    record {
      hands = ap (λ (hs : List Hand). hs ++ hands_of rest) c.in_ok-push.ensures.items ∙ append_assoc c.loop-worker.hands.items (worker.hand ∷ []) (hands_of rest) ∙ ap (λ (ws : List PlantWorker). c.loop-worker.hands.items ++ hands_of ws) (sym seen) ∙ so_far.hands;
      harvests = ap (λ (hs : List Harvest). hs ++ map harvest_of rest) c.in_ok-push-2.ensures.items ∙ append_assoc c.loop-worker.harvests.items (harvest_of worker ∷ []) (map harvest_of rest) ∙ ap (λ (ws : List PlantWorker). c.loop-worker.harvests.items ++ map harvest_of ws) (sym seen) ∙ so_far.harvests;
      memory = λ others. so_far.memory (subst (All (λ w. w.memory ≡ true)) (sym seen) (All-cons (λ (w : PlantWorker). w.memory ≡ true) worker rest (search rules) others));
    }
