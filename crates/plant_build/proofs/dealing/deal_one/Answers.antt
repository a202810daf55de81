use Rattle.std.proofs.Common.{◌%◌, [], ◌∷◌, ◌++◌, length, get_or, refl, sym, ap, ◌∙◌, subst, arith}
use Rattle.std.proofs.Math.Seq.{map-set_same}
use Rattle.std.proofs.Math.Nat.{mod-lt}
use Rattle.plant_build.specs.declared.hand.Hand.{Hand}
use Rattle.plant_build.specs.Balance.{times}
use Rattle.plant_build.specs.Dealt.{AreAtHome}
use Rattle.plant_build.proofs.HandLists.{put_one, put_none, home_put, times_push}
use Rattle.plant_build.proofs.dealing.deal_one.Goals as goal

pub returns-in_ok-push-clause-owns : goal.returns-in_ok-push-clause-owns
returns-in_ok-push-clause-owns c = map-set_same (λ (h : Hand). h.own.reached) c.args.hands.now _ _ c.index-hands-place.result c.put.ensures.reached

pub returns-in_ok-push-clause-others : goal.returns-in_ok-push-clause-others
returns-in_ok-push-clause-others c = map-set_same (λ (h : Hand). h.others.items) c.args.hands.now _ _ c.index-hands-place.result refl

pub returns-in_ok-push-clause-each : goal.returns-in_ok-push-clause-each
returns-in_ok-push-clause-each c x =
    let within = mod-lt c.args.batch c.requires in
    let d = c.index-hands-place.result in
    let hand : Hand = record { own = c.put.new.self; others = (get_or c.args.hands.now (c.args.batch % length c.args.hands.now) d).others } in
    let left = ap (times x) (c.in_ok-push.ensures.items ∙ ap (λ b. c.args.left.now.items ++ b ∷ []) c.in-Err.ensures.put.0) in
    omega (arith, put_none x c.args.hands.now (c.args.batch % length c.args.hands.now) hand d within c.in-Err.ensures.put.1, left, times_push x c.args.left.now.items c.args.batch)

pub returns-in_ok-push-clause-home : goal.returns-in_ok-push-clause-home
returns-in_ok-push-clause-home c home =
    subst AreAtHome (sym (map-set_same (λ (h : Hand). h.own.put) c.args.hands.now _ _ c.index-hands-place.result c.in-Err.ensures.put.1)) home

pub returns-in_default-clause-owns : goal.returns-in_default-clause-owns
returns-in_default-clause-owns c = map-set_same (λ (h : Hand). h.own.reached) c.args.hands.now _ _ c.index-hands-place.result c.put.ensures.reached

pub returns-in_default-clause-others : goal.returns-in_default-clause-others
returns-in_default-clause-others c = map-set_same (λ (h : Hand). h.others.items) c.args.hands.now _ _ c.index-hands-place.result refl

pub returns-in_default-clause-each : goal.returns-in_default-clause-each
returns-in_default-clause-each c x =
    let within = mod-lt c.args.batch c.requires in
    let d = c.index-hands-place.result in
    let hand : Hand = record { own = c.put.new.self; others = (get_or c.args.hands.now (c.args.batch % length c.args.hands.now) d).others } in
    omega (arith, put_one x c.args.hands.now (c.args.batch % length c.args.hands.now) hand d c.args.batch within c.in_default.ensures.put)

pub returns-in_default-clause-home : goal.returns-in_default-clause-home
returns-in_default-clause-home c =
    home_put c.args.hands.now _ _ c.index-hands-place.result c.args.batch (mod-lt c.args.batch c.requires) c.in_default.ensures.put refl
