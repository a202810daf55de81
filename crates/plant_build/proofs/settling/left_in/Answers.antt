use Rattle.std.proofs.Common.{◌≡◌, List, [], ◌∷◌, ◌++◌, length, take, set, get_or, sym, ap, ◌∙◌, subst}
use Rattle.std.proofs.lemmas.List.{map-append, set-get_or, take_more, take_all}
use Rattle.plant_build.specs.Hands.{Owned, IsSettled}
use Rattle.plant_build.specs.Settled.{AreSettled}
use Rattle.plant_build.proofs.Settlings.{settled_push, settled_total}
use Rattle.plant_build.proofs.settling.left_in.Goals as goal

pub loop-own-preserved : goal.loop-own-preserved
loop-own-preserved c =
    let so_far = c.loop-own.invariant in
    let i = c.loop-own.own-index in
    let d = c.own-item.result in
    let old = c.args.owns.now in
    let told = c.left.ensures in
    let here : get_or c.loop-own.own-items i d ≡ get_or old i d = ap (λ os. get_or os i d) so_far.same in
    let rests = so_far.left.0 in
    let rest = told.left.0 in
    record {
      same = ap (set c.loop-own.own-items i) told.same ∙ set-get_or c.loop-own.own-items i d ∙ so_far.same;
      left = (
        rests ++ rest ∷ [],
        map-append length rests (rest ∷ []) ∙ ap (λ ns. ns ++ length rest ∷ []) so_far.left.1 ∙ ap (λ n. c.loop-own.left.items ++ n ∷ []) told.left.1 ∙ sym c.in_ok-push.ensures.items,
        subst (λ (os : List Owned). AreSettled os (rests ++ rest ∷ [])) (sym (take_more old i d c.loop-own-test.true))
            (settled_push (take i old) rests (get_or old i d) rest so_far.left.2 (subst (λ (o : Owned). IsSettled o rest) here told.left.2)),
      );
    }

pub returns : goal.returns
returns c =
    let left = c.loop-own.invariant.left in
    let whole = subst (λ (os : List Owned). AreSettled os left.0) (take_all c.loop-own.own-index c.args.owns.now c.loop-own-test.false) left.2 in
    (left.0, left.1, λ x. settled_total x c.args.owns.now left.0 whole c.requires)
