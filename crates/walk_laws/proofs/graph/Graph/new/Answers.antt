use Rattle.std.specs.Prelude.{◌≡◌, ℕ, ◌≤◌, ◌<◌, length}
use Rattle.std.proofs.Common.{arith, ◌∙◌, inl}
use Rattle.walk_laws.specs.Graph.{IsRowOf, arcs_at}
use Rattle.walk_laws.specs.Rows.{AreWithin, IsPlaced}
use Rattle.walk_laws.proofs.Storing.{IsStored-sorted, ends_rise, ends_within, written}
use Rattle.walk_laws.proofs.SortedRows.{row_at}
use Rattle.walk_laws.proofs.graph.Graph.new.Goals as goal

pub sort_rows-requires-clause-rising : goal.sort_rows-requires-clause-rising
sort_rows-requires-clause-rising c =
    let ends = c.place_arcs.new.next in
    let long : length ends ≡ c.in_ok-starts.starts.len = omega (arith, c.place_arcs.ensures.len, c.deref_mut.ensures.len, c.in_ok-starts.starts.ok.0) in
    rw (c.deref-3.ensures.value, written c.in_ok-starts.starts.items ends c.in_ok-starts.starts.len long) (ends_rise c.deref-2.result.now c.in_ok-arcs.arcs.items ends c.in_ok-arcs.ensures.placed)

pub sort_rows-requires-clause-within : goal.sort_rows-requires-clause-within
sort_rows-requires-clause-within c =
    let ends = c.place_arcs.new.next in
    let long : length ends ≡ c.in_ok-starts.starts.len = omega (arith, c.place_arcs.ensures.len, c.deref_mut.ensures.len, c.in_ok-starts.starts.ok.0) in
    rw (c.deref-3.ensures.value, written c.in_ok-starts.starts.items ends c.in_ok-starts.starts.len long, c.deref_mut-2.ensures.value) (ends_within c.deref-2.result.now c.in_ok-arcs.arcs.items ends c.in_ok-arcs.ensures.placed)

pub invariant_of-result : goal.invariant_of-result
invariant_of-result c =
    let edges = c.args.edges.items in
    let arcs = c.in_ok-arcs.arcs.items in
    let sorted = c.sort_rows.new.arcs in
    let ends = c.place_arcs.new.next in
    let long : length ends ≡ c.in_ok-starts.starts.len = omega (arith, c.place_arcs.ensures.len, c.deref_mut.ensures.len, c.in_ok-starts.starts.ok.0) in
    let many : length sorted ≡ c.in_ok-arcs.arcs.len = omega (arith, c.in_ok-sort_rows.ensures.len, c.deref_mut-2.ensures.len, c.in_ok-arcs.arcs.ok.0) in
    let placed : IsPlaced edges (arcs_at edges) arcs ends = rw c.deref-2.ensures.value at c.in_ok-arcs.ensures.placed in
    let within : AreWithin edges (length ends) = rw (long, ← c.deref.ensures.value) c.in_ok-starts.ensures.nodes in
    let ends_are : c.deref-3.result.now ≡ ends = c.deref-3.ensures.value ∙ written c.in_ok-starts.starts.items ends c.in_ok-starts.starts.len long in
    let rows : (v : ℕ) → 1 ≤ v → v < length ends → IsRowOf (row_at ends arcs v) (row_at ends sorted v) = rw (ends_are, c.deref_mut-2.ensures.value) at c.in_ok-sort_rows.ensures.rows in
    rw (written c.in_ok-starts.starts.items ends c.in_ok-starts.starts.len long, written arcs sorted c.in_ok-arcs.arcs.len many)
    (IsStored-sorted c.args.n edges arcs sorted ends c.requires within placed (omega (arith, many, c.in_ok-arcs.arcs.ok.0)) rows, inl c.none.ensures)
