use Rattle.std.proofs.Common.{List, All, map, subst, sym, ap, arith}
use Rattle.std.specs.Prelude.{sum_by}
use Rattle.std.proofs.lemmas.Result.{IfOk-weaker}
use Rattle.std.proofs.lemmas.List.Elements.{All-map, All-weaker}
use Rattle.plant_build.specs.declared.collecting.Harvest.{Harvest}
use Rattle.plant_build.specs.declared.hand.Hand.{Hand}
use Rattle.plant_build.specs.declared.worker.PlantWorker.{PlantWorker}
use Rattle.plant_build.specs.Balance.{times}
use Rattle.plant_build.specs.Rounds.{share_of, put_by, taken_by}
use Rattle.plant_build.specs.Workers.{TookItsBatches}
use Rattle.plant_build.specs.Harvest.{IsHeld, IsBelow, harvest_of}
use Rattle.plant_build.proofs.Harvests.{planted_taken, dealt_once}
use Rattle.plant_build.proofs.collecting.collect.Goals as goal

pub bring_in-requires-clause-below : goal.bring_in-requires-clause-below
bring_in-requires-clause-below c =
    let IsBelowAll : Harvest → Type 0 = λ h. IsBelow c.args.batches h.numbers.items in
    subst (All IsBelowAll) (sym c.in_ok-hands.ensures.harvests) (All-map IsBelowAll harvest_of c.args.crew.members.items (All-weaker (TookItsBatches c.args.batches) (λ (w : PlantWorker). IsBelow c.args.batches w.numbers.items) (λ w took. took.below) c.args.crew.members.items c.requires.took))

pub bring_in-requires-clause-once : goal.bring_in-requires-clause-once
bring_in-requires-clause-once c b =
    let hands = c.in_ok-hands.ensures.hands in
    let all = c.in_ok-settle.ensures.2 b in
    omega (
      arith,
      ap (sum_by (λ (h : Harvest). times b h.numbers.items)) c.in_ok-hands.ensures.harvests,
      planted_taken c.args.batches b c.args.crew.members.items c.requires.took,
      ap (λ (hs : List Hand). put_by b (map share_of hs)) hands,
      ap (taken_by b) hands,
      all,
      dealt_once b c.args.batches _ _ (c.requires.dealt b),
    )

pub returns-clause-come : goal.returns-clause-come
returns-clause-come c =
    IfOk-weaker c.bring_in.result _ _
    (λ got come edges at roots n worked.
    come edges at roots n (subst (All (IsHeld edges at roots c.args.batches n)) (sym c.in_ok-hands.ensures.harvests)
    (All-map (IsHeld edges at roots c.args.batches n) harvest_of c.args.crew.members.items (λ k d within. let w = worked k d within in (w.sink, w.holds (c.in_ok-hands.ensures.memory k d within)))))) c.bring_in.ensures.come
