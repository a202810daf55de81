use Rattle.std.specs.Prelude.{◌<◌, length, refl}
use Rattle.std.proofs.Common.{arith, get_or}
use Rattle.walk_laws.specs.declared.graph.Edge.{Edge}
use Rattle.walk_laws.proofs.PlacedArcs.{IsPlaced-begun, IsPlaced-first, IsPlaced-second, first_fits, second_fits, room_within}
use Rattle.walk_laws.proofs.rows.place_range.Goals as goal

pub loop-e-init : goal.loop-e-init
loop-e-init c = record { len = refl; placed = IsPlaced-begun c.args.edges.now c.args.arcs.now c.args.next.now c.args.shift c.args.range c.requires.placed }

abbrev none : Edge
none = record { u = 0; v = 0; w = 0 }

pub place_if-requires-clause-room : goal.place_if-requires-clause-room
place_if-requires-clause-room c = λ is.
    let edges = c.args.edges.now in
    let i = c.loop-e.e-index in
    let within : (get_or edges i none).u < length c.loop-e.next = omega (arith, c.loop-e.invariant.len, (c.requires.nodes i none c.loop-e-test.true).0) in
    room_within edges _ c.loop-e.arcs c.loop-e.next c.args.shift c.args.range (get_or edges i none).u c.loop-e.invariant.placed within (first_fits edges i none c.loop-e-test.true) is

pub place_if-requires-in-loop-e-clause-room : goal.place_if-requires-in-loop-e-clause-room
place_if-requires-in-loop-e-clause-room c = λ is.
    let edges = c.args.edges.now in
    let i = c.loop-e.e-index in
    let e = get_or edges i none in
    let first : e.u < length c.loop-e.next = omega (arith, c.loop-e.invariant.len, (c.requires.nodes i none c.loop-e-test.true).0) in
    let placed = IsPlaced-first edges i none c.loop-e.arcs c.loop-e.next c.args.shift c.args.range c.loop-e-test.true first c.loop-e.invariant.placed in
    let second : e.v < length c.place_if.new.next = omega (arith, c.loop-e.invariant.len, (c.requires.nodes i none c.loop-e-test.true).1, c.place_if.ensures.len) in
    rw (c.place_if.ensures.arcs, c.place_if.ensures.next) (room_within edges _ _ _ c.args.shift c.args.range e.v placed (rw c.place_if.ensures.next at second) (second_fits edges i none c.loop-e-test.true) is)

pub loop-e-preserved : goal.loop-e-preserved
loop-e-preserved c =
    let edges = c.args.edges.now in
    let i = c.loop-e.e-index in
    let e = get_or edges i none in
    let first : e.u < length c.loop-e.next = omega (arith, c.loop-e.invariant.len, (c.requires.nodes i none c.loop-e-test.true).0) in
    let placed = IsPlaced-first edges i none c.loop-e.arcs c.loop-e.next c.args.shift c.args.range c.loop-e-test.true first c.loop-e.invariant.placed in
    let second : e.v < length c.place_if.new.next = omega (arith, c.loop-e.invariant.len, (c.requires.nodes i none c.loop-e-test.true).1, c.place_if.ensures.len) in
    record {
      len = omega (arith, c.loop-e.invariant.len, c.place_if.ensures.len, c.place_if-in-loop-e.ensures.len);
      placed = rw (c.place_if-in-loop-e.ensures.arcs, c.place_if-in-loop-e.ensures.next, c.place_if.ensures.arcs, c.place_if.ensures.next) (IsPlaced-second edges i none _ _ c.args.shift c.args.range c.loop-e-test.true (rw c.place_if.ensures.next at second) placed);
    }
