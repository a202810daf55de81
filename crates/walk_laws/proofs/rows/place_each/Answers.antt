use Rattle.std.specs.Prelude.{◌/◌, ◌^◌, refl}
use Rattle.std.proofs.Common.{arith, ap}
use Rattle.walk_laws.proofs.PlacedArcs.{IsPlaced-none, IsPlaced-all}
use Rattle.walk_laws.proofs.rows.place_each.Goals as goal

pub loop-range-init : goal.loop-range-init
loop-range-init c = record { len = refl; placed = IsPlaced-none c.args.edges.now c.args.arcs.now c.args.next.now c.saturating_sub-shift.result c.requires.room c.requires.starts }

pub returns-clause-placed : goal.returns-clause-placed
returns-clause-placed c =
    let shift = c.saturating_sub-shift.result in
    let ranges = ap (λ n. n / 2 ^ shift) c.loop-range.invariant.len in
    IsPlaced-all c.args.edges.now c.loop-range.arcs c.loop-range.next shift c.loop-range.range (omega (arith, ranges, c.loop-range-test.false)) c.loop-range.invariant.placed
