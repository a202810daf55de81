use Rattle.std.proofs.Common.{◌<◌, length, slice_set, ap, ◌∙◌, arith}
use Rattle.frontier.specs.declared.reach.Reach.TheVariants.{Unreached}
use Rattle.frontier.specs.Places.{told_all}
use Rattle.frontier.proofs.PlaceLemmas.{length-told, told-set}
use Rattle.frontier.proofs.places.Places.forget.Goals as goal

pub index_mut-requires : goal.index_mut-requires
index_mut-requires g c =
    let inside : c.args.node < length (told_all c.self.inside.places.items c.self.inside.apart.items) = rw c.self.view_is c.requires in
    omega (arith, inside, length-told c.self.inside.places.items c.self.inside.apart.items c.self.invariant)

pub returns : goal.returns
returns g c =
    let inside : c.args.node < length (told_all c.self.inside.places.items c.self.inside.apart.items) = rw c.self.view_is c.requires in
    let within : c.args.node < length c.self.inside.places.items = omega (arith, inside, length-told c.self.inside.places.items c.self.inside.apart.items c.self.invariant) in
    told-set c.self.inside.places.items c.self.inside.apart.items c.args.node (record { word = 0; carried = c.index_mut.result.now.carried }) 0 c.self.invariant within
    ∙ ap (λ reaches. slice_set reaches c.args.node Unreached) c.self.view_is
