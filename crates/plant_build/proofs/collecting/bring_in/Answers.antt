use Rattle.std.proofs.Common.{◌≡◌, ℕ, ◌+◌, ◌≤◌, ◌≢◌, Bool, false, [], ◌∷◌, List, All, AllPairs, Contains, length, replicate, subst, sym, ap, ◌∙◌, rules, arith}
use Rattle.std.specs.Prelude.{sum_by}
use Rattle.std.proofs.lemmas.List.{length-replicate, with_items_is}
use Rattle.std.proofs.lemmas.List.Elements.{All-head, All-tail}
use Rattle.std.proofs.lemmas.List.Sums.{sum_by-cons}
use Rattle.plant_build.specs.declared.collecting.Harvest.{Harvest}
use Rattle.plant_build.specs.Balance.{times}
use Rattle.entry_sinks.specs.Sunk.{Sunk}
use Rattle.plant_build.specs.Gains.{HoldsBatches}
use Rattle.plant_build.specs.Harvest.{IsHeld, IsBelow}
use Rattle.plant_build.specs.Marks.{mark, Adds, HasCome}
use Rattle.plant_build.proofs.HeldParts.{HasCome-none, HasCome-more, marks_none}
use Rattle.plant_build.proofs.Harvests.{marked, marked_none, marked_more, differ_by_times, fresh_by_times}
use Rattle.plant_build.proofs.collecting.bring_in.Goals as goal

pub loop-harvest-init : goal.loop-harvest-init
loop-harvest-init c =
    let come_is : c.in_ok-come.come.items ≡ replicate c.args.batches false = c.in_ok-come.ensures.items_if_clones_equal (λ y same. search rules) in
    let none : (b : ℕ) → mark c.in_ok-come.come.items b ≡ false = λ b. ap (λ marks. mark marks b) come_is ∙ marks_none c.args.batches b in
    let all = sym c.into_iter-harvest-iterator.ensures.into_iter_gives.0 in
    record {
      size = ap length come_is ∙ length-replicate c.args.batches false;
      below = subst (All (λ h. IsBelow c.args.batches h.numbers.items)) all c.requires.below;
      once = λ b. let rest = ap (sum_by (λ (h : Harvest). times b h.numbers.items)) all in omega (arith, c.requires.once b, marked_none c.in_ok-come.come.items b (none b), rest);
      come = λ edges at roots n held.
          let begun : HasCome edges at roots n c.in_ok-come.come.items [] = HasCome-none edges at roots n c.in_ok-come.come.items none in
          (subst (λ sinks. HasCome edges at roots n c.in_ok-come.come.items sinks) (sym c.in_ok-sinks.ensures.items) begun, subst (All (IsHeld edges at roots c.args.batches n)) all held);
    }

abbrev numbers_of : Harvest → List ℕ
numbers_of h = h.numbers.items

-- what is left of each number, once the next harvest is in
next_once : (come : List Bool) (h : Harvest) (rest all : List Harvest) (b : ℕ) → all ≡ h ∷ rest → marked come b + sum_by (λ h. times b h.numbers.items) all ≤ 1 → marked come b + (times b h.numbers.items + sum_by (λ h. times b h.numbers.items) rest) ≤ 1
next_once come h rest all b is once = omega (arith, once, ap (sum_by (λ (k : Harvest). times b k.numbers.items)) is, sum_by-cons (λ (k : Harvest). times b k.numbers.items) h rest)

pub set_marks-requires-clause-below : goal.set_marks-requires-clause-below
set_marks-requires-clause-below c =
    let so_far = c.loop-harvest.invariant in
    let all = subst (All (λ h. IsBelow c.args.batches h.numbers.items)) c.in-Some.ensures.steps.0 so_far.below in
    let first = All-head (λ (h : Harvest). IsBelow c.args.batches h.numbers.items) c.in-Some.harvest c.next.new.self.rest.items all in
    let size = ap length c.deref_mut.ensures.value ∙ so_far.size in
    subst (λ (t : ℕ × List ℕ). IsBelow t.0 t.1) (λ j. (sym size j, sym c.deref.ensures.value j)) first

pub set_marks-requires-clause-once : goal.set_marks-requires-clause-once
set_marks-requires-clause-once c =
    subst (AllPairs (λ x y. x ≢ y)) (sym c.deref.ensures.value)
    (differ_by_times c.in-Some.harvest.numbers.items
    (λ b. let next = next_once c.loop-harvest.come.items c.in-Some.harvest c.next.new.self.rest.items c.loop-harvest.harvest-iterator.rest.items b c.in-Some.ensures.steps.0 (c.loop-harvest.invariant.once b) in omega (arith, next)))

pub set_marks-requires-clause-fresh : goal.set_marks-requires-clause-fresh
set_marks-requires-clause-fresh c b there =
    let next = next_once c.loop-harvest.come.items c.in-Some.harvest c.next.new.self.rest.items c.loop-harvest.harvest-iterator.rest.items b c.in-Some.ensures.steps.0 (c.loop-harvest.invariant.once b) in
    ap (λ marks. mark marks b) c.deref_mut.ensures.value
    ∙ fresh_by_times c.loop-harvest.come.items c.in-Some.harvest.numbers.items b (omega (arith, next)) (subst (λ (xs : List ℕ). Contains xs b) c.deref.ensures.value there)

pub loop-harvest-preserved : goal.loop-harvest-preserved
loop-harvest-preserved c =
    let so_far = c.loop-harvest.invariant in
    let old = c.loop-harvest.come.items in
    let new = c.set_marks.new.come in
    let harvest = c.in-Some.harvest in
    let rest = c.next.new.self.rest.items in
    let seen = c.in-Some.ensures.steps.0 in
    let kept = with_items_is c.loop-harvest.come new (omega arith) in
    let adds : Adds old harvest.numbers.items new = subst (λ (t : List Bool × List ℕ). Adds t.0 t.1 new) (λ j. (c.deref_mut.ensures.value j, c.deref.ensures.value j)) c.set_marks.ensures in
    record {
      size = ap length kept ∙ adds.size ∙ so_far.size;
      below = All-tail (λ (h : Harvest). IsBelow c.args.batches h.numbers.items) harvest rest (subst (All (λ h. IsBelow c.args.batches h.numbers.items)) seen so_far.below);
      once = λ b.
          let next = next_once old harvest rest c.loop-harvest.harvest-iterator.rest.items b seen (so_far.once b) in
          omega (arith, next, marked_more old new harvest.numbers.items b adds, ap (λ marks. marked marks b) kept);
      come = λ edges at roots n held.
          let before = so_far.come edges at roots n held in
          let all = subst (All (IsHeld edges at roots c.args.batches n)) seen before.1 in
          let first = All-head (IsHeld edges at roots c.args.batches n) harvest rest all in
          let holds = subst (λ (batches : ℕ). HoldsBatches edges at roots batches harvest.numbers.items harvest.sink) (sym so_far.size) first.1 in
          let come = HasCome-more edges at roots n old new harvest.numbers.items c.loop-harvest.sinks.items harvest.sink first.0 holds adds before.0 in (
            subst (λ (t : List Bool × List Sunk). HasCome edges at roots n t.0 t.1) (λ j. (sym kept j, sym c.in_ok-push.ensures.items j)) come,
            All-tail (IsHeld edges at roots c.args.batches n) harvest rest all,
          );
    }

pub returns-clause-come : goal.returns-clause-come
returns-clause-come c edges at roots n held = (c.loop-harvest.invariant.come edges at roots n held).0
