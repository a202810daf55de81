use Rattle.std.proofs.Common.{◌≡◌, ℕ, List, All, map, refl, sym, ap, ◌∙◌, subst, arith, nat_lt}
use Rattle.std.specs.Prelude.{if◌then◌else◌, sum_by}
use Rattle.std.proofs.lemmas.List.{with_items_is}
use Rattle.plant_build.specs.declared.hand.Hand.{Hand}
use Rattle.plant_build.specs.Hands.{Reached}
use Rattle.plant_build.specs.Balance.{times}
use Rattle.plant_build.specs.Rounds.{share_of, put_by, deques_of, IsOneRound, HasTakenNothing}
use Rattle.plant_build.specs.Dealt.{owns_of, puts_of, others_of, lent_by, back_by, AreUnused, AreAtHome, AreLent}
use Rattle.plant_build.proofs.HandLists.{nothing_put, nothing_home, once_more, once_none, put_by_puts, IsOneRound-lent, nothing_taken}
use Rattle.plant_build.proofs.dealing.deal.Goals as goal

pub loop-batch-init : goal.loop-batch-init
loop-batch-init c =
    let new = c.in_ok-hands.ensures in
    record {
      owns = refl;
      others = refl;
      lent = (refl, refl);
      each = λ x. omega (arith, nothing_put x c.in_ok-hands.hands.items new.puts, ap (times x) c.new-left.ensures.items, once_none x);
      home = nothing_home (puts_of c.in_ok-hands.hands.items) new.puts;
    }

pub loop-batch-preserved : goal.loop-batch-preserved
loop-batch-preserved c =
    let so_far = c.loop-batch.invariant in
    let told = c.in_ok-deal_one.ensures in
    let kept = with_items_is c.loop-batch.hands c.deal_one.new.hands (omega arith) in
    let old = c.deref_mut.ensures.value in
    let b = c.loop-batch.batch in
    record {
      owns = ap owns_of kept ∙ told.owns ∙ ap owns_of old ∙ so_far.owns;
      others = ap others_of kept ∙ told.others ∙ ap others_of old ∙ so_far.others;
      lent = (ap lent_by kept ∙ told.lent.0 ∙ ap lent_by old ∙ so_far.lent.0, ap back_by kept ∙ told.lent.1 ∙ ap back_by old ∙ so_far.lent.1);
      each = λ x.
          let after = ap (λ (hs : List Hand). put_by x (map share_of hs)) kept in
          let before = ap (λ (hs : List Hand). put_by x (map share_of hs)) old in
          omega (arith, after, told.each x, before, so_far.each x, once_more x b);
      home = subst (λ (hs : List Hand). AreAtHome (puts_of hs)) (sym kept) (told.home (subst (λ (hs : List Hand). AreAtHome (puts_of hs)) (sym old) so_far.home));
    }

pub returns-clause-each : goal.returns-clause-each
returns-clause-each c x =
    let kept = with_items_is c.loop-batch.hands c.lend_all.new.hands (omega arith) in
    let told = c.in_ok-lend_all.ensures in
    let puts = ap (λ (ps : List (List ℕ)). sum_by (λ put. times x put) ps) (told.puts ∙ ap puts_of c.deref_mut-2.ensures.value) in
    let after = ap (λ (hs : List Hand). put_by x (map share_of hs)) kept in
    let whole : c.loop-batch.batch ≡ c.args.batches = omega arith in
    omega (arith, after, puts, put_by_puts x c.lend_all.new.hands, put_by_puts x c.loop-batch.hands.items, c.loop-batch.invariant.each x, ap (λ b. let n : ℕ = (if nat_lt x b then 1 else 0) in n) whole)

pub returns-clause-round : goal.returns-clause-round
returns-clause-round c =
    let hands = c.lend_all.new.hands in
    let kept = with_items_is c.loop-batch.hands hands (omega arith) in
    let told = c.in_ok-lend_all.ensures in
    let lent = told.lent (ap lent_by c.deref_mut-2.ensures.value ∙ c.loop-batch.invariant.lent.0 ∙ c.in_ok-hands.ensures.lent.0) in
    let back = told.back ∙ ap back_by c.deref_mut-2.ensures.value ∙ c.loop-batch.invariant.lent.1 ∙ c.in_ok-hands.ensures.lent.1 in
    let others = subst (λ (rs : List Reached). AreLent (deques_of rs) (others_of hands)) (sym told.owns) told.others in
    subst (λ (hs : List Hand). IsOneRound (map share_of hs)) (sym kept) (IsOneRound-lent hands lent back others)

pub returns-clause-nothing : goal.returns-clause-nothing
returns-clause-nothing c =
    let hands = c.lend_all.new.hands in
    let kept = with_items_is c.loop-batch.hands hands (omega arith) in
    let told = c.in_ok-lend_all.ensures in
    let owns = subst AreUnused (sym (told.owns ∙ ap owns_of c.deref_mut-2.ensures.value ∙ c.loop-batch.invariant.owns)) c.in_ok-hands.ensures.owns in
    subst (All HasTakenNothing) (sym kept) (nothing_taken hands _ owns told.others)
