use Rattle.std.proofs.Common.{◌+◌, ◌*◌, ◌<◌, length, get_or, set, ap, ◌∙◌, arith}
use Rattle.frontier.specs.Places.{found_of, told_all}
use Rattle.frontier.proofs.PlaceLemmas.{length-told, told-set, told-set_both, told-short, told-far}
use Rattle.frontier.proofs.places.Places.put.Goals as goal

pub index_mut-requires : goal.index_mut-requires
index_mut-requires g c =
    let inside : c.args.node < length (told_all c.self.inside.places.items c.self.inside.apart.items) = rw c.self.view_is c.requires.node in
    omega (arith, inside, length-told c.self.inside.places.items c.self.inside.apart.items c.self.invariant)

pub index_mut-requires-2 : goal.index_mut-requires-2
index_mut-requires-2 g c =
    let inside : c.args.node < length (told_all c.self.inside.places.items c.self.inside.apart.items) = rw c.self.view_is c.requires.node in
    omega (arith, inside, c.self.invariant, length-told c.self.inside.places.items c.self.inside.apart.items c.self.invariant)

pub index_mut-requires-3 : goal.index_mut-requires-3
index_mut-requires-3 g c =
    let inside : c.args.node < length (told_all c.self.inside.places.items c.self.inside.apart.items) = rw c.self.view_is c.requires.node in
    omega (arith, inside, length-told c.self.inside.places.items c.self.inside.apart.items c.self.invariant)

pub returns-then-found : goal.returns-then-found
returns-then-found g c =
    let inside : c.args.node < length (told_all c.self.inside.places.items c.self.inside.apart.items) = rw c.self.view_is c.requires.node in
    let within : c.args.node < length c.self.inside.places.items = omega (arith, inside, length-told c.self.inside.places.items c.self.inside.apart.items c.self.invariant) in
    told-set c.self.inside.places.items c.self.inside.apart.items c.args.node (record { word = (c.args.found.dist + 1) * 2 + c.args.state; carried = c.args.found.carried }) 0 c.self.invariant within
    ∙ ap (λ reach. set (told_all c.self.inside.places.items c.self.inside.apart.items) c.args.node reach) (told-short c.args.found.carried c.args.found.dist c.args.state (get_or c.self.inside.apart.items c.args.node 0) c.if-found.true c.requires.state)
    ∙ ap (λ reaches. set reaches c.args.node (found_of c.args.state c.args.found)) c.self.view_is

pub returns : goal.returns
returns g c =
    let inside : c.args.node < length (told_all c.self.inside.places.items c.self.inside.apart.items) = rw c.self.view_is c.requires.node in
    let within : c.args.node < length c.self.inside.places.items = omega (arith, inside, length-told c.self.inside.places.items c.self.inside.apart.items c.self.invariant) in
    told-set_both c.self.inside.places.items c.self.inside.apart.items c.args.node (record { word = 4294967294 + c.args.state; carried = c.args.found.carried }) c.args.found.dist c.self.invariant within
    ∙ ap (λ reach. set (told_all c.self.inside.places.items c.self.inside.apart.items) c.args.node reach) (told-far c.args.found.carried c.args.found.dist c.args.state c.requires.state)
    ∙ ap (λ reaches. set reaches c.args.node (found_of c.args.state c.args.found)) c.self.view_is
