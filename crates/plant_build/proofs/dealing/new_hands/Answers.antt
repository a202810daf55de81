use Rattle.std.proofs.Common.{◌≡◌, ℕ, List, [], ◌∷◌, ◌++◌, All, sym, ap, ◌∙◌, subst, arith}
use Rattle.std.proofs.lemmas.List.{map-append}
use Rattle.std.proofs.lemmas.List.Elements.{All-push, All-nil}
use Rattle.std.proofs.lemmas.List.Sums.{sum_by_push}
use Rattle.plant_build.specs.declared.hand.Hand.{Hand}
use Rattle.plant_build.specs.Hands.{Reached, unused}
use Rattle.plant_build.specs.Dealt.{owns_of, puts_of, others_of, lent_by, back_by, AreUnused}
use Rattle.plant_build.proofs.dealing.new_hands.Goals as goal

abbrev IsUnused : Reached → Type 0
IsUnused r = r ≡ unused r.deque

abbrev IsNone : {X : Type 0} → List X → Type 0
IsNone xs = xs ≡ []

pub loop-init : goal.loop-init
loop-init c =
    let none = c.in_ok-hands.ensures.items in
    record {
      hands = c.in_ok-hands.ensures.len;
      owns = subst (λ (hs : List Hand). AreUnused (owns_of hs)) (sym none) (All-nil IsUnused);
      puts = subst (λ (hs : List Hand). All (IsNone {X = ℕ}) (puts_of hs)) (sym none) (All-nil (IsNone {X = ℕ}));
      others = subst (λ (hs : List Hand). All (IsNone {X = Reached}) (others_of hs)) (sym none) (All-nil (IsNone {X = Reached}));
      lent = (ap lent_by none, ap back_by none);
    }

pub loop-preserved : goal.loop-preserved
loop-preserved c =
    let so_far = c.loop.invariant in
    let hands = c.loop.hands.items in
    let hand : Hand = record { own = c.in_ok-own.own; others = c.new-others.result } in
    let items : c.push.new.self.items ≡ hands ++ hand ∷ [] = c.in_ok-push.ensures.items in
    let new = c.in_ok-own.ensures in
    record {
      hands = omega (arith, c.in_ok-push.ensures.len, so_far.hands);
      owns = subst AreUnused (sym (ap owns_of items ∙ map-append (λ (h : Hand). h.own.reached) hands (hand ∷ []))) (All-push IsUnused (owns_of hands) hand.own.reached so_far.owns new.reached);
      puts = subst (All (IsNone {X = ℕ})) (sym (ap puts_of items ∙ map-append (λ (h : Hand). h.own.put) hands (hand ∷ []))) (All-push (IsNone {X = ℕ}) (puts_of hands) hand.own.put so_far.puts new.put);
      others = subst (All (IsNone {X = Reached})) (sym (ap others_of items ∙ map-append (λ (h : Hand). h.others.items) hands (hand ∷ []))) (All-push (IsNone {X = Reached}) (others_of hands) hand.others.items so_far.others c.new-others.ensures.items);
      lent = (omega (arith, ap lent_by items, sum_by_push (λ (h : Hand). h.own.lent) hands hand, so_far.lent.0, new.lent.0), omega (arith, ap back_by items, sum_by_push (λ (h : Hand). h.own.back) hands hand, so_far.lent.1, new.lent.1));
    }
