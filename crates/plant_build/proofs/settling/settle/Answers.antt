use Rattle.std.proofs.Common.{◌≡◌, List, length, map, sym, ap, ◌∙◌, subst, arith}
use Rattle.std.specs.Prelude.{sum_by}
use Rattle.std.proofs.lemmas.List.{with_items_is}
use Rattle.std.proofs.lemmas.Result.{IfOk-weaker}
use Rattle.plant_build.specs.declared.hand.Hand.{Hand}
use Rattle.plant_build.specs.Hands.{Reached, Owned}
use Rattle.plant_build.specs.Balance.{times}
use Rattle.plant_build.specs.Settled.{owned_deques, put_into, got_of, EachAfter}
use Rattle.plant_build.proofs.Settlings.{kept_puts, kept_lent, round_each_after, round_lent, owns_lent, owns_back, owns_put, hands_taken, rounds_got, rounds_size}
use Rattle.plant_build.proofs.settling.settle.Goals as goal

abbrev owns_in : List Hand → List Owned
owns_in hands = map (λ h. h.own) hands

pub all_back-requires-clause-after : goal.all_back-requires-clause-after
all_back-requires-clause-after c =
    let hands = c.args.hands.items in
    let told = c.in_ok-owns.ensures in
    let owns = c.deref_mut.ensures.value ∙ told.owns in
    subst (λ (os : List Owned). EachAfter (owned_deques os) (map (λ v. v.items) c.in_ok-owns.rounds.items)) (sym owns) (subst (EachAfter (owned_deques (owns_in hands))) (sym told.others) (round_each_after hands c.requires))

pub left_in-requires : goal.left_in-requires
left_in-requires c =
    let hands = c.args.hands.items in
    let told = c.in_ok-owns.ensures in
    let owns : c.deref_mut.result.now ≡ owns_in hands = c.deref_mut.ensures.value ∙ told.owns in
    let new = c.all_back.new.owns in
    let now : c.deref_mut-2.result.now ≡ new = c.deref_mut-2.ensures.value ∙ with_items_is c.in_ok-owns.owns new (omega arith) in
    let size = rounds_size c.in_ok-owns.rounds.items in
    let borrowed = ap (sum_by (λ (os : List Reached). length os)) told.others in
    omega (arith, ap (sum_by (λ (o : Owned). o.lent)) now, ap (sum_by (λ (o : Owned). o.back)) now, kept_lent c.deref_mut.result.now new c.all_back.ensures.kept, c.all_back.ensures.back, ap (sum_by (λ (o : Owned). o.lent)) owns, ap (sum_by (λ (o : Owned). o.back)) owns, owns_lent hands, owns_back hands, round_lent hands c.requires, size, borrowed)

pub returns : goal.returns
returns c =
    let hands = c.args.hands.items in
    let told = c.in_ok-owns.ensures in
    let owns : c.deref_mut.result.now ≡ owns_in hands = c.deref_mut.ensures.value ∙ told.owns in
    let new = c.all_back.new.owns in
    let now : c.deref_mut-2.result.now ≡ new = c.deref_mut-2.ensures.value ∙ with_items_is c.in_ok-owns.owns new (omega arith) in
    let others = told.others in
    IfOk-weaker c.left_in.result _ _
    (λ left h. (
      h.0,
      h.1,
      λ x.
          let put = kept_puts x c.deref_mut.result.now new c.all_back.ensures.kept in
          let got = c.all_back.ensures.got x in
          let rounds = rounds_got x c.in_ok-owns.rounds.items in
          let lent = ap (sum_by (λ (os : List Reached). sum_by (λ (r : Reached). times x r.got) os)) others in
          omega (arith, h.2 x, ap (put_into x) now, ap (got_of x) now, put, got, ap (put_into x) owns, ap (got_of x) owns, owns_put x hands, rounds, lent, hands_taken x hands),
    )) c.left_in.ensures
