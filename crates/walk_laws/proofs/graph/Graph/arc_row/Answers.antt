use Rattle.std.proofs.Common.{◌≡◌, ◌<◌, ◌≤◌, length, map, ap, arith}
use Rattle.std.specs.List.Sorted.{IsNonDecreasing}
use Rattle.walk_laws.specs.ArcRows.{widened}
use Rattle.walk_laws.specs.Graph.{IsRowOf, arcs_at}
use Rattle.std.specs.Prelude.{slice_range}
use Rattle.walk_laws.proofs.Arcs.{IsRowOf-between, Joined-row, between_rises}
use Rattle.walk_laws.proofs.NarrowRows.{all_narrowed, part_narrowed}
use Rattle.walk_laws.proofs.graph.Graph.arc_row.Goals as goal
use Rattle.walk_laws.proofs.graph.Graph.arc_row.Goals.{Then-node-len, After-index-then-node-len}

-- there are arcs in half the room, and their starts are those of the arcs
narrowed : (c : Then-node-len) → (map (λ a. widened a) c.self.inside.narrow.arcs.items ≡ c.self.inside.arcs.items) × (c.self.inside.narrow.starts.items ≡ c.self.inside.starts.items)
narrowed c =
    let g = c.self.inside in
    all_narrowed g.narrow.arcs.items g.narrow.starts.items g.arcs.items g.starts.items c.self.invariant.1 (omega (arith, c.if-node-len.true, c.len.ensures, g.narrow.starts.ok.0))

-- the row begins no later than it ends
rises : (c : After-index-then-node-len) → (c.self.inside.narrow.starts.items ≡ c.self.inside.starts.items) → c.index.result.now ≤ c.index-then-node-len.result.now
rises c same =
    let g = c.self.inside in
    let rising : IsNonDecreasing g.narrow.starts.items = rw same c.self.invariant.0.1 in
    between_rises g.narrow.starts.items c.args.v c.index.result.now c.index-then-node-len.result.now rising (omega (arith, c.if-node-len.true, c.len.ensures, g.narrow.starts.ok.0)) c.index.ensures c.index-then-node-len.ensures

pub slice_bounds-result-count : goal.slice_bounds-result-count
slice_bounds-result-count c = rises (goal.at.slice_bounds-result-count c).After-index-then-node-len (narrowed (goal.at.slice_bounds-result-count c).Then-node-len).1

pub slice_bounds-result-start : goal.slice_bounds-result-start
slice_bounds-result-start c = rises (goal.at.slice_bounds-result-start c).After-index-then-node-len (narrowed (goal.at.slice_bounds-result-start c).Then-node-len).1

pub returns-then-node-len : goal.returns-then-node-len
returns-then-node-len c = λ t w.
    let g = c.self.inside in
    let same = narrowed (goal.at.returns-then-node-len c).Then-node-len in
    let inside : c.args.v < length g.starts.items = omega (arith, ap length same.1, c.if-node-len.true, c.len.ensures, g.narrow.starts.ok.0) in
    let row : IsRowOf (arcs_at g.edges.items c.args.v) (slice_range g.arcs.items c.index.result.now c.index-then-node-len.result.now) =
    IsRowOf-between g.n g.edges.items g.arcs.items g.starts.items c.self.invariant.0 c.args.v c.index.result.now c.index-then-node-len.result.now c.requires.node
    inside (rw same.1 at c.index.ensures) (rw same.1 at c.index-then-node-len.ensures) in
    rw (← c.self.view_is, c.deref.ensures.value, part_narrowed g.narrow.arcs.items g.arcs.items c.index.result.now c.index-then-node-len.result.now same.0) (Joined-row g.edges.items c.args.v _ row t w)

pub returns-then-node-len-2 : goal.returns-then-node-len-2
returns-then-node-len-2 c = λ t w.
    let row = c.self.invariant.0.4 c.args.v (omega (arith, c.self.inside.starts.ok.0)) in
    rw (← c.self.view_is) (Joined-row c.self.inside.edges.items c.args.v _ row t w)

pub slice_bounds-result-count-2 : goal.slice_bounds-result-count-2
slice_bounds-result-count-2 c =
    let starts = c.self.inside.starts in
    between_rises starts.items c.args.v c.index-2.result.now c.index-3.result.now c.self.invariant.0.1 (omega (arith, starts.ok.0)) c.index-2.ensures c.index-3.ensures

pub slice_bounds-result-start-2 : goal.slice_bounds-result-start-2
slice_bounds-result-start-2 c =
    let starts = c.self.inside.starts in
    between_rises starts.items c.args.v c.index-2.result.now c.index-3.result.now c.self.invariant.0.1 (omega (arith, starts.ok.0)) c.index-2.ensures c.index-3.ensures

pub returns : goal.returns
returns c = λ t w.
    let g = c.self.inside in
    let row = IsRowOf-between g.n g.edges.items g.arcs.items g.starts.items c.self.invariant.0 c.args.v c.index-2.result.now c.index-3.result.now c.requires.node (omega (arith, g.starts.ok.0)) c.index-2.ensures c.index-3.ensures in
    rw (← c.self.view_is, c.deref-2.ensures.value) (Joined-row g.edges.items c.args.v _ row t w)
