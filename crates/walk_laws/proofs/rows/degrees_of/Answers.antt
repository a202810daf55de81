use Rattle.std.specs.Prelude.{◌≡◌, ◌<◌, ◌+◌, length, set, slice_index}
use Rattle.std.proofs.Common.{arith, get_or}
use Rattle.std.proofs.lemmas.List.{get_or_read, length-set}
use Rattle.walk_laws.specs.declared.graph.Edge.{Edge}
use Rattle.walk_laws.proofs.PlacedArcs.{counted_more, counted_once, degree_most, degree_of_first}
use Rattle.walk_laws.proofs.rows.degrees_of.Goals as goal

abbrev none : Edge
none = record { u = 0; v = 0; w = 0 }

pub overflow_add-index_mut : goal.overflow_add-index_mut
overflow_add-index_mut c =
    let edges = c.args.edges.now in
    let e = get_or edges c.loop-e.e-index none in
    let degrees = c.loop-e.degrees.items in
    let within : e.u < length degrees = omega (arith, (c.loop-e.invariant.nodes c.loop-e.e-index none c.loop-e-test.true).0, c.loop-e.degrees.ok.0) in
    let is : c.index_mut.result.now ≡ slice_index degrees e.u = get_or_read degrees e.u c.index_mut.result.now within c.index_mut.ensures.value 0 in
    omega (arith, is, c.loop-e.invariant.each e.u (omega (arith, within, c.loop-e.degrees.ok.0)), degree_of_first edges c.loop-e.e-index e.u, degree_most edges e.u)

pub overflow_add-index_mut-in-loop-e : goal.overflow_add-index_mut-in-loop-e
overflow_add-index_mut-in-loop-e c =
    let edges = c.args.edges.now in
    let e = get_or edges c.loop-e.e-index none in
    let degrees = c.loop-e.degrees.items in
    let first : e.u < length degrees = omega (arith, (c.loop-e.invariant.nodes c.loop-e.e-index none c.loop-e-test.true).0, c.loop-e.degrees.ok.0) in
    let x = c.index_mut.result.now in
    let once = set degrees e.u (x + 1) in
    let second : e.v < length once = omega (arith, (c.loop-e.invariant.nodes c.loop-e.e-index none c.loop-e-test.true).1, c.loop-e.degrees.ok.0, length-set degrees e.u (x + 1)) in
    let is : x ≡ slice_index degrees e.u = get_or_read degrees e.u x first c.index_mut.ensures.value 0 in
    let is_next : c.index_mut-in-loop-e.result.now ≡ slice_index once e.v = get_or_read once e.v c.index_mut-in-loop-e.result.now second c.index_mut-in-loop-e.ensures.value 0 in
    omega (arith, is_next, counted_once degrees e.u e.v x first is, c.loop-e.invariant.each e.v (omega (arith, second, length-set degrees e.u (x + 1), c.loop-e.degrees.ok.0)), degree_of_first edges c.loop-e.e-index e.v, degree_most edges e.v)

pub loop-e-preserved : goal.loop-e-preserved
loop-e-preserved c =
    let edges = c.args.edges.now in
    let e = get_or edges c.loop-e.e-index none in
    let degrees = c.loop-e.degrees.items in
    let first : e.u < length degrees = omega (arith, (c.loop-e.invariant.nodes c.loop-e.e-index none c.loop-e-test.true).0, c.loop-e.degrees.ok.0) in
    let x = c.index_mut.result.now in
    let once = set degrees e.u (x + 1) in
    let second : e.v < length once = omega (arith, (c.loop-e.invariant.nodes c.loop-e.e-index none c.loop-e-test.true).1, c.loop-e.degrees.ok.0, length-set degrees e.u (x + 1)) in
    let is : x ≡ slice_index degrees e.u = get_or_read degrees e.u x first c.index_mut.ensures.value 0 in
    let is_next : c.index_mut-in-loop-e.result.now ≡ slice_index once e.v = get_or_read once e.v c.index_mut-in-loop-e.result.now second c.index_mut-in-loop-e.ensures.value 0 in
    record {
      nodes = c.loop-e.invariant.nodes;
      each = λ v lt. counted_more edges c.loop-e.e-index none degrees x c.index_mut-in-loop-e.result.now c.loop-e-test.true first (omega (arith, second, length-set degrees e.u (x + 1))) is is_next (λ u less. c.loop-e.invariant.each u (omega (arith, less, c.loop-e.degrees.ok.0))) v (omega (arith, lt, c.loop-e.degrees.ok.0));
    }
