use Rattle.std.proofs.Common.{◌≡◌, ◌∷◌, ◌+◌, ◌<◌, suc, false, length, set, drop, drop-cons, get_or, subst, arith}
use Rattle.near_points.specs.declared.hit.Hit.{Hit}
use Rattle.near_points.proofs.Marks.{AreOf, AreOf-rest}
use Rattle.near_points.proofs.Members.{given_inside}
use Rattle.near_points.proofs.workspace.unmark.Goals as goal

-- a read past the end, where none is made
abbrev no_hit : Hit
no_hit = record { node = 0; dist = 0 }

pub loop-hit-preserved : goal.loop-hit-preserved
loop-hit-preserved c =
    let i = c.loop-hit.hit-index in
    let hits = c.args.hits.now in
    let hit = get_or hits i no_hit in
    let inside : hit.node < length c.args.given.now = given_inside c.args.given.now hit.node (c.requires.each i no_hit c.loop-hit-test.true) in
    let seen : drop i hits ≡ hit ∷ drop (suc i) hits = drop-cons hits i no_hit c.loop-hit-test.true in
    let next : suc i ≡ i + 1 = omega arith in
    let rest = AreOf-rest c.loop-hit.given hit (drop (suc i) hits) (omega (arith, inside, c.loop-hit.auto.given)) (subst (AreOf c.loop-hit.given) seen c.loop-hit.invariant) in
    subst (λ j. AreOf (set c.loop-hit.given hit.node false) (drop j hits)) next rest
