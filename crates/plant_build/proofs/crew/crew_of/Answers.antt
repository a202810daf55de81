use Rattle.std.proofs.Common.{◌≡◌, ◌+◌, map, nat_lt, ◌∷◌, ◌++◌, [], All, List, ap, sym, ◌∙◌, subst, append_assoc}
use Rattle.std.specs.Prelude.{if◌then◌else◌}
use Rattle.std.proofs.lemmas.List.{map-append}
use Rattle.std.proofs.lemmas.List.Elements.{All-push}
use Rattle.plant_build.specs.declared.hand.Hand.{Hand}
use Rattle.plant_build.specs.declared.worker.PlantWorker.{PlantWorker}
use Rattle.plant_build.specs.Balance.{times}
use Rattle.plant_build.specs.Workers.{IsReady, hands_of}
use Rattle.plant_build.specs.Rounds.{share_of, put_by, IsOneRound}
use Rattle.plant_build.proofs.Harvests.{nothing_long, whole_of_prefix}
use Rattle.plant_build.proofs.crew.crew_of.Goals as goal

pub loop-hand-preserved : goal.loop-hand-preserved
loop-hand-preserved c =
    let so_far = c.loop-hand.invariant in
    let members = c.loop-hand.members.items in
    let worker = c.in_ok-new.field-0 in
    let seen = c.in-Some.ensures.steps.0 in
    let rest = c.next.new.self.rest.items in
    record {
      ready = subst (All (IsReady c.args.n)) (sym c.in_ok-push.ensures.items) (All-push (IsReady c.args.n) members worker so_far.ready c.in_ok-new.ensures.ready);
      hands =
          ap (λ (ws : List PlantWorker). hands_of ws ++ rest) c.in_ok-push.ensures.items
          ∙ ap (λ (hs : List Hand). hs ++ rest) (map-append (λ (w : PlantWorker). w.hand) members (worker ∷ []) ∙ ap (λ (h : Hand). hands_of members ++ h ∷ []) c.in_ok-new.ensures.hand)
          ∙ append_assoc (hands_of members) (c.in-Some.hand ∷ []) rest
          ∙ ap (λ (hs : List Hand). hands_of members ++ hs) (sym seen)
          ∙ so_far.hands;
    }

pub returns-clause-round : goal.returns-clause-round
returns-clause-round c =
    let rest = c.loop-hand.hand-iterator.rest in
    let none = nothing_long rest.items (sym rest.ok.0 ∙ c.in-None.ensures.steps.0) in
    let hands = whole_of_prefix (hands_of c.loop-hand.members.items) rest.items none (c.loop-hand.invariant.hands ∙ c.into_iter-hand-iterator.ensures.into_iter_gives.0) in
    subst (λ (hs : List Hand). IsOneRound (map share_of hs)) (sym hands) c.in_ok-hands.ensures.round

pub returns-clause-dealt : goal.returns-clause-dealt
returns-clause-dealt c x =
    let rest = c.loop-hand.hand-iterator.rest in
    let none = nothing_long rest.items (sym rest.ok.0 ∙ c.in-None.ensures.steps.0) in
    let hands = whole_of_prefix (hands_of c.loop-hand.members.items) rest.items none (c.loop-hand.invariant.hands ∙ c.into_iter-hand-iterator.ensures.into_iter_gives.0) in
    subst (λ (hs : List Hand). put_by x (map share_of hs) + times x c.in_ok-hands.left.items ≡ (if nat_lt x c.args.batches then 1 else 0)) (sym hands) (c.in_ok-hands.ensures.each x)
