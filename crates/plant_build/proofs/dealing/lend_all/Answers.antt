use Rattle.std.proofs.Common.{◌≡◌, ℕ, ◌<◌, List, [], length, set, get_or, refl, sym, ap, ◌∙◌, subst, inl, inr, arith}
use Rattle.std.specs.Prelude.{slice_get, sum_by}
use Rattle.std.proofs.Math.Seq.{map-set_same}
use Rattle.std.proofs.lemmas.List.{length-map, map-set}
use Rattle.std.proofs.lemmas.List.Sums.{sum_by-set}
use Rattle.std.proofs.lemmas.Option.{slice_get_within, slice_get-get_or}
use Rattle.plant_build.specs.declared.hand.Hand.{Hand}
use Rattle.plant_build.specs.Hands.{DequeId, Reached}
use Rattle.plant_build.specs.Rounds.{deques_of}
use Rattle.plant_build.specs.Dealt.{owns_of, others_of, AreUnused, IsRest}
use Rattle.plant_build.proofs.HandLists.{slice_get_set, All_at, nothing_borrowed}
use Rattle.plant_build.proofs.dealing.lend_all.Goals as goal

pub loop-place-init : goal.loop-place-init
loop-place-init c = record {
  owns = refl;
  puts = refl;
  lent = λ none. none ∙ sym (nothing_borrowed (others_of c.args.hands.now) c.requires);
  back = refl;
  done = λ i os at early. absurd (omega (arith, early));
  rest = λ i os at _. All_at (λ (xs : List Reached). xs ≡ []) (others_of c.args.hands.now) i os c.requires at;
}

pub loop-place-preserved : goal.loop-place-preserved
loop-place-preserved c =
    let old = c.loop-place.hands in
    let hands = c.borrow_round.new.hands in
    let so_far = c.loop-place.invariant in
    let place = c.loop-place.place in
    let d = c.index-hands-place.result in
    let more = c.in_ok-others.others.items in
    let told = c.in_ok-others.ensures in
    let hand : Hand = record { own = (get_or hands place d).own; others = c.in_ok-others.others } in
    let all = deques_of (owns_of c.args.hands.now) in
    let within : c.loop-place.place < length c.borrow_round.new.hands = omega arith in
    let others_are : others_of (set hands place hand) ≡ set (others_of old) place more = map-set (λ (h : Hand). h.others.items) hands place hand ∙ ap (λ xs. set xs place more) told.others in
    let size : length (others_of old) ≡ length hands = ap length (sym told.others) ∙ length-map hands (λ (h : Hand). h.others.items) in
    let inside : c.loop-place.place < length (others_of c.loop-place.hands) = omega (arith, size, within) in
    let none : get_or (others_of old) place [] ≡ [] = so_far.rest place (get_or (others_of old) place []) (slice_get-get_or (others_of old) place [] inside) (omega arith) in
    record {
      owns = map-set_same (λ (h : Hand). h.own.reached) hands place hand d refl ∙ told.owns ∙ so_far.owns;
      puts = map-set_same (λ (h : Hand). h.own.put) hands place hand d refl ∙ told.puts ∙ so_far.puts;
      lent = λ nothing.
          omega (arith, so_far.lent nothing, told.lent, sum_by-set (λ (h : Hand). h.own.lent) hands place hand d within, ap (λ (xs : List (List Reached)). sum_by (λ os. length os) xs) others_are, sum_by-set (λ (os : List Reached). length os) (others_of old) place more [] inside, ap length none, c.in_ok-others.others.ok.0);
      back = omega (arith, told.back, so_far.back, sum_by-set (λ (h : Hand). h.own.back) hands place hand d within);
      done = λ i os at early. elim (slice_get_set (others_of old) place i more os (sym (ap (λ xs. slice_get xs i) others_are) ∙ at)) [
        | inl now ↦
            let round : IsRest all place (deques_of more) = subst (λ (ds : List DequeId). IsRest ds place (deques_of more)) (ap deques_of so_far.owns) told.round in
            (subst (λ (t : ℕ × List Reached). IsRest all t.0 (deques_of t.1)) (λ j. (sym now.0 j, now.1 j)) round, subst AreUnused now.1 told.unused)
        | inr apart ↦ so_far.done i os apart.1 (let ne = apart.0 in omega (arith, early))
      ];
      rest = λ i os at late. elim (slice_get_set (others_of old) place i more os (sym (ap (λ xs. slice_get xs i) others_are) ∙ at)) [
        | inl now ↦ absurd (omega (arith, late, now.0))
        | inr apart ↦ so_far.rest i os apart.1 (omega (arith, late))
      ];
    }

pub returns-clause-others : goal.returns-clause-others
returns-clause-others c place os at =
    let within = slice_get_within (others_of c.loop-place.hands) place os at in
    c.loop-place.invariant.done place os at (omega (arith, within, length-map c.loop-place.hands (λ (h : Hand). h.others.items)))
