use Rattle.std.proofs.Common.{◌≡◌, ◌<◌, Some, None, length, sym, take, ◌∙◌, arith}
use Rattle.std.proofs.lemmas.List.{get_or_read, length-take-le}
use Rattle.hub_index.specs.RootDistances.{root_distance}
use Rattle.hub_index.proofs.TouchedPositions.{room_for_fresh, HasTouched-fresh, HasTouched-known, clamped-set}
use Rattle.hub_index.proofs.root_table.RootTable.note.Goals as goal
use Rattle.hub_index.proofs.root_table.RootTable.note.Goals.{In-None}

record Fresh (c : In-None) : Type 0 where
  pub inside : c.args.entry.pos < length c.self.inside.dists.items
  pub fresh : root_distance c.self.inside.dists.items c.args.entry.pos ≡ None
  pub room : c.self.inside.count < length c.self.inside.touched.items

fresh_there : (c : In-None) → Fresh c
fresh_there c =
    let inside : c.args.entry.pos < length c.self.inside.dists.items = rw (← c.self.view_is) at c.requires in
    let fresh : root_distance c.self.inside.dists.items c.args.entry.pos ≡ None = sym (get_or_read c.self.inside.dists.items _ _ inside c.index.ensures None) ∙ c.in-None.is in
    let long : length (take c.self.inside.count c.self.inside.touched.items) ≡ c.self.inside.count = length-take-le c.self.inside.count c.self.inside.touched.items c.self.invariant.0.few in
    record { inside = inside; fresh = fresh; room = room_for_fresh c.self.inside.dists.items c.self.inside.touched.items c.self.inside.count c.args.entry.pos c.self.invariant.0 inside fresh long }

pub index_mut-requires : goal.index_mut-requires
index_mut-requires c = omega (arith, (fresh_there (goal.at.index_mut-requires c).In-None).room, c.self.inside.touched.ok.0)

pub invariant_of-self : goal.invariant_of-self
invariant_of-self c =
    let f = fresh_there (goal.at.invariant_of-self c).In-None in (
      HasTouched-fresh c.self.inside.dists.items c.self.inside.touched.items c.self.inside.count c.args.entry.pos c.self.invariant.0 f.inside f.fresh c.args.entry.dist f.room,
      rw c.clamped.ensures (clamped-set c.self.inside.dists.items c.self.inside.clamped.items c.args.entry.pos (Some c.args.entry.dist) c.self.invariant.1),
    )

pub invariant_of-self-in-Some : goal.invariant_of-self-in-Some
invariant_of-self-in-Some c =
    let inside : c.args.entry.pos < length c.self.inside.dists.items = rw (← c.self.view_is) at c.requires in
    let was : root_distance c.self.inside.dists.items c.args.entry.pos ≡ Some c.in-Some.known = sym (get_or_read c.self.inside.dists.items _ _ inside c.index.ensures None) ∙ c.in-Some.is in (
      HasTouched-known c.self.inside.dists.items c.self.inside.touched.items c.self.inside.count c.args.entry.pos c.in-Some.known c.lesser_of-least.result c.self.invariant.0 was,
      rw c.clamped-in-Some.ensures (clamped-set c.self.inside.dists.items c.self.inside.clamped.items c.args.entry.pos (Some c.lesser_of-least.result) c.self.invariant.1),
    )
