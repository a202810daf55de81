use Rattle.std.proofs.Common.{◌<◌, length, get_or, sym, ap, ap₂, ◌∙◌, arith}
use Rattle.frontier.specs.Reaches.{reach_at}
use Rattle.frontier.specs.Places.{told, told_all}
use Rattle.frontier.proofs.PlaceLemmas.{length-told, told-at, told-not_apart}
use Rattle.frontier.proofs.places.Places.get.Goals as goal

pub index-place-requires : goal.index-place-requires
index-place-requires g c =
    let inside : c.args.node < length (told_all c.self.inside.places.items c.self.inside.apart.items) = rw c.self.view_is c.requires in
    omega (arith, inside, length-told c.self.inside.places.items c.self.inside.apart.items c.self.invariant)

pub index-requires : goal.index-requires
index-requires g c =
    let inside : c.args.node < length (told_all c.self.inside.places.items c.self.inside.apart.items) = rw c.self.view_is c.requires in
    omega (arith, inside, c.self.invariant, length-told c.self.inside.places.items c.self.inside.apart.items c.self.invariant)

pub returns-then-place-eq-FAR : goal.returns-then-place-eq-FAR
returns-then-place-eq-FAR g c =
    let inside : c.args.node < length (told_all c.self.inside.places.items c.self.inside.apart.items) = rw c.self.view_is c.requires in
    let within : c.args.node < length c.self.inside.places.items = omega (arith, inside, length-told c.self.inside.places.items c.self.inside.apart.items c.self.invariant) in
    c.reach.ensures ∙ ap₂ told c.index-place.ensures c.index.ensures
    ∙ sym (told-at c.self.inside.places.items c.self.inside.apart.items c.args.node c.index-place.result.now c.index.result.now c.self.invariant within)
    ∙ ap (λ reaches. reach_at reaches c.args.node) c.self.view_is

pub returns : goal.returns
returns g c =
    let inside : c.args.node < length (told_all c.self.inside.places.items c.self.inside.apart.items) = rw c.self.view_is c.requires in
    let within : c.args.node < length c.self.inside.places.items = omega (arith, inside, length-told c.self.inside.places.items c.self.inside.apart.items c.self.invariant) in
    c.reach-2.ensures ∙ told-not_apart c.index-place.result.now 0 (get_or c.self.inside.apart.items c.args.node 0) c.if-place-eq-FAR.false
    ∙ ap (λ place. told place (get_or c.self.inside.apart.items c.args.node 0)) c.index-place.ensures
    ∙ sym (told-at c.self.inside.places.items c.self.inside.apart.items c.args.node c.index-place.result.now 0 c.self.invariant within)
    ∙ ap (λ reaches. reach_at reaches c.args.node) c.self.view_is
