use Rattle.std.proofs.Common.{◌≡◌, ℕ, List, Vec, Global, vec_len, [], ◌∷◌, length, map, sym, ap, ◌∙◌, subst, arith}
use Rattle.std.specs.Prelude.{sum_by}
use Rattle.std.proofs.lemmas.List.{length-map, map-append}
use Rattle.std.proofs.lemmas.List.Sums.{sum_by_push}
use Rattle.plant_build.specs.Hands.{DequeId, Reached}
use Rattle.plant_build.specs.Rounds.{deques_of, got_from}
use Rattle.plant_build.specs.Settled.{owned_deques, AreAfter, EachAfter}
use Rattle.plant_build.proofs.Settlings.{kept_deques, each_prefix, each_last}
use Rattle.plant_build.proofs.settling.all_back.Goals as goal

abbrev items_of : Vec Reached Global → List Reached
items_of v = v.items

pub round_back-requires-clause-after : goal.round_back-requires-clause-after
round_back-requires-clause-after c =
    let all = owned_deques c.args.owns.now in
    let rounds = c.pop.new.self.items in
    let others = c.in-Some.others in
    let each = subst (EachAfter all) (ap (map items_of) c.in-Some.ensures.items ∙ map-append items_of rounds (others ∷ [])) c.loop-others.invariant.after in
    let all_is : owned_deques c.loop-others.owns ≡ all = kept_deques c.args.owns.now c.loop-others.owns c.loop-others.invariant.kept in
    let place : length (map items_of rounds) ≡ c.len.result = omega (arith, length-map rounds items_of, c.len.ensures, c.pop.new.self.ok.0) in
    subst (λ (ds : List DequeId). AreAfter ds c.len.result (deques_of others.items)) (sym all_is) (subst (λ (n : ℕ). AreAfter all n (deques_of others.items)) place (each_last all (map items_of rounds) others.items each))

pub loop-others-preserved : goal.loop-others-preserved
loop-others-preserved c =
    let all = owned_deques c.args.owns.now in
    let so_far = c.loop-others.invariant in
    let rounds = c.pop.new.self.items in
    let others = c.in-Some.others in
    let told = c.round_back.ensures in
    let items = c.in-Some.ensures.items in
    record {
      kept = told.kept ∙ so_far.kept;
      count = omega (arith, so_far.count, c.in-Some.ensures.len);
      after = each_prefix all (map items_of rounds) others.items (subst (EachAfter all) (ap (map items_of) items ∙ map-append items_of rounds (others ∷ [])) so_far.after);
      back = omega (arith, told.back, so_far.back, ap (sum_by (λ (v : Vec Reached Global). vec_len v)) items, sum_by_push (λ (v : Vec Reached Global). vec_len v) rounds others);
      got = λ x. omega (arith, told.got x, so_far.got x, ap (sum_by (λ (v : Vec Reached Global). got_from x v.items)) items, sum_by_push (λ (v : Vec Reached Global). got_from x v.items) rounds others);
    }
