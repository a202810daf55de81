use Rattle.std.proofs.Common.{◌∷◌, List, ap, sym, ◌∙◌, subst, arith}
use Rattle.std.specs.Prelude.{Some}
use Rattle.std.proofs.lemmas.List.{with_items_is}
use Rattle.plant_build.specs.Hands.{Reached, Asked}
use Rattle.plant_build.proofs.Askings.{asked_first, asked_later, asked_deques}
use Rattle.plant_build.proofs.hand.Hand.take.Goals as goal

pub returns-in-Some-clause-asked : goal.returns-in-Some-clause-asked
returns-in-Some-clause-asked g c =
    let own = c.args.self.now.own.reached in
    let others = c.args.self.now.others.items in
    subst (λ (r : Reached). Asked (Some c.in-Some.batch) (own ∷ others) (r ∷ others)) (sym c.in-Some.ensures.reached) (asked_first own others c.in-Some.batch)

pub returns-clause-asked : goal.returns-clause-asked
returns-clause-asked g c =
    let own = c.args.self.now.own.reached in
    let others = c.args.self.now.others.items in
    let kept = with_items_is c.args.self.now.others c.steal_any.new.others (omega arith) in
    let asked = subst (λ (xs : List Reached). Asked c.steal_any.result xs c.steal_any.new.others) c.deref_mut.ensures.value c.steal_any.ensures in
    subst (λ (rs : List Reached). Asked c.steal_any.result (own ∷ others) rs) (ap (λ r. r ∷ c.steal_any.new.others) (sym c.in_default.ensures.reached) ∙ ap (λ rs. c.pop.new.self.reached ∷ rs) (sym kept))
    (asked_later c.steal_any.result own others c.steal_any.new.others asked)

pub returns-clause-share : goal.returns-clause-share
returns-clause-share g c =
    let deques = asked_deques _ _ _ (returns-clause-asked g c) in
    λ j. record { put = c.in_default.ensures.put j; lent = c.in_default.ensures.lent.0 j; back = c.in_default.ensures.lent.1 j; deques = deques j }
