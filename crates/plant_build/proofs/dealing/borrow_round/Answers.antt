use Rattle.std.proofs.Common.{◌≡◌, ℕ, ◌+◌, ◌%◌, ◌<◌, List, length, get_or, refl, sym, ap, ◌∙◌, subst, arith}
use Rattle.std.specs.Prelude.{slice_get, Some}
use Rattle.std.proofs.Math.Seq.{map-set_same}
use Rattle.std.proofs.Math.Nat.{mod-lt}
use Rattle.std.proofs.lemmas.List.{length-map}
use Rattle.std.proofs.lemmas.List.Sums.{sum_by-set}
use Rattle.std.proofs.lemmas.List.Elements.{All-push}
use Rattle.plant_build.specs.declared.hand.Hand.{Hand}
use Rattle.plant_build.specs.Hands.{Reached, unused}
use Rattle.plant_build.specs.Rounds.{deques_of}
use Rattle.plant_build.specs.Dealt.{owns_of, AreUnused}
use Rattle.plant_build.proofs.HandLists.{own_at, rest_more}
use Rattle.plant_build.proofs.dealing.borrow_round.Goals as goal

pub loop-step-preserved : goal.loop-step-preserved
loop-step-preserved c =
    let hands = c.loop-step.hands in
    let so_far = c.loop-step.invariant in
    let others = c.loop-step.others.items in
    let d = c.index-hands-at.result in
    let at = (c.args.place + c.loop-step.step) % length hands in
    let within : (c.args.place + c.loop-step.step) % length c.loop-step.hands < length c.loop-step.hands = mod-lt (c.args.place + c.loop-step.step) (omega arith) in
    let all = deques_of (owns_of c.args.hands.now) in
    let all_is : deques_of (owns_of hands) ≡ all = ap deques_of so_far.owns in
    let size : length (deques_of (owns_of hands)) ≡ length hands = length-map (owns_of hands) (λ (r : Reached). r.deque) ∙ length-map hands (λ (h : Hand). h.own.reached) in
    let other = c.in_ok-lend.field-0 in
    let is : other ≡ unused (get_or hands at d).own.reached.deque = c.in_ok-lend.ensures.other in
    let count : c.loop-step.step ≡ 1 + length others = omega arith in
    let place_is : (c.args.place + 1 + length others) % length all ≡ at =
    ap (λ n. (c.args.place + 1 + length others) % n) (sym (ap length all_is) ∙ size) ∙ ap (λ j. j % length hands) (let e : c.args.place + 1 + length c.loop-step.others.items ≡ c.args.place + c.loop-step.step = omega arith in e) in
    let found : slice_get all ((c.args.place + 1 + length others) % length all) ≡ Some other.deque =
    ap (slice_get all) place_is ∙ ap (λ ds. slice_get ds at) (sym all_is) ∙ own_at hands at d within ∙ ap (λ (r : Reached). Some r.deque) (sym is) in
    let hand : Hand = record { own = c.lend.new.self; others = (get_or hands at d).others } in
    record {
      owns = map-set_same (λ (h : Hand). h.own.reached) hands _ _ d c.lend.ensures.reached ∙ so_far.owns;
      puts = map-set_same (λ (h : Hand). h.own.put) hands _ _ d c.lend.ensures.put ∙ so_far.puts;
      others = map-set_same (λ (h : Hand). h.others.items) hands _ _ d refl ∙ so_far.others;
      count = omega (arith, c.in_ok-push.ensures.len, so_far.count);
      lent = omega (arith, sum_by-set (λ (h : Hand). h.own.lent) hands at hand d within, c.in_ok-lend.ensures.lent, so_far.lent, c.in_ok-push.ensures.len);
      back = omega (arith, sum_by-set (λ (h : Hand). h.own.back) hands at hand d within, c.lend.ensures.back, so_far.back);
      round = subst (λ (os : List Reached). (k : ℕ) → k < length (deques_of os) → slice_get (deques_of os) k ≡ slice_get all ((c.args.place + 1 + k) % length all)) (sym c.in_ok-push.ensures.items) (rest_more all c.args.place others other so_far.round found);
      unused = subst AreUnused (sym c.in_ok-push.ensures.items) (All-push (λ (r : Reached). r ≡ unused r.deque) others other so_far.unused (is ∙ ap (λ (r : Reached). unused r.deque) (sym is)));
    }
