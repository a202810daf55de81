use Rattle.std.specs.Prelude.{◌≡◌, suc, slice_index}
use Rattle.std.proofs.Common.{arith}
use Rattle.std.proofs.lemmas.List.{get_or_read}
use Rattle.walk_laws.proofs.PlacedArcs.{arcs_before_most}
use Rattle.walk_laws.proofs.rows.starts_of.Goals as goal

pub overflow_add-at : goal.overflow_add-at
overflow_add-at c =
    let starts = c.loop-v.starts.items in
    let v = c.loop-v.v in
    let is : c.index-degree.result.now ≡ slice_index starts v = get_or_read starts v c.index-degree.result.now (omega (arith, c.loop-v-test.true, c.loop-v.invariant.len, c.loop-v.starts.ok.0)) c.index-degree.ensures 0 in
    omega (arith, is, c.loop-v.invariant.at, c.loop-v.invariant.left v (omega arith) (omega (arith, c.loop-v-test.true, c.loop-v.invariant.len)), arcs_before_most c.args.edges.now (suc v))
