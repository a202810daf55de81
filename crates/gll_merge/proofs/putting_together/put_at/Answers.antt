use Rattle.std.proofs.Common.{◌≡◌, Some, slice_set, ap, subst, ◌∙◌}
use Rattle.std.specs.Prelude.{is_some}
use Rattle.gll_table.specs.Tables.{IsShardBelow}
use Rattle.gll_merge.specs.Merging.{OneShard, with_shard}
use Rattle.gll_merge.proofs.PlacedShards.{ArePlaced-put, is_put, no_place, other_position, place_taken, read_there}
use Rattle.gll_merge.proofs.putting_together.put_at.Goals as goal
use Rattle.gll_merge.proofs.putting_together.put_at.Goals.{else-first-next-via-then-first-next+then-place-places+else-is_none, else-first-next-via-then-first-next+else-place-places, else-first-next-via-else-first-next}

pub returns-then-is_none-clause-added : goal.returns-then-is_none-clause-added
returns-then-is_none-clause-added g c =
    let places = c.args.places.now in
    let inside = c.shard.inside in
    let shard : OneShard = record { number = inside.number; first = inside.first; rows = inside.rows } in
    let free = ap is_some (read_there places inside.number c.index-places-place.result c.if-place-places.true c.index-places-place.is) ∙ ap is_some c.index-places-place.is ∙ c.if-is_none.ensures in
    subst (λ s. slice_set places inside.number (Some inside.rows) ≡ with_shard c.args.next places s) c.shard.view_is
    (is_put c.args.next places shard c.if-first-next.true c.if-place-places.true free)

pub returns-then-is_none-clause-placed : goal.returns-then-is_none-clause-placed
returns-then-is_none-clause-placed g c placed =
    let inside = c.shard.inside in
    ArePlaced-put g.B.Build.edges g.B.Build.order g.B.Build.shift c.args.next c.args.places.now inside.number inside.rows
    (subst (λ p. IsShardBelow g.B.Build.edges g.B.Build.order g.B.Build.shift p c.shard.inside.number c.shard.inside.rows) c.if-first-next.true c.shard.invariant.1) placed

pub returns-else-first-next-clause-added : goal.returns-else-first-next-clause-added
returns-else-first-next-clause-added g c =
    let places = c.args.places.now in
    let inside = c.shard.inside in
    let shard : OneShard = record { number = inside.number; first = inside.first; rows = inside.rows } in
    subst (λ s. places ≡ with_shard c.args.next places s) c.shard.view_is
    (elim c.else-first-next.branch [
      | else-first-next-via-then-first-next+then-place-places+else-is_none w ↦
          place_taken c.args.next places shard
          (ap is_some (read_there places inside.number w.index-places-place.result w.if-place-places.true w.index-places-place.is) ∙ ap is_some w.index-places-place.is ∙ w.if-is_none.ensures)
      | else-first-next-via-then-first-next+else-place-places w ↦ no_place c.args.next places shard w.if-place-places.false
      | else-first-next-via-else-first-next w ↦ other_position c.args.next places shard w.if-first-next.false
    ])
