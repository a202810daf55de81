use Rattle.std.proofs.Common.{arith}
use Rattle.walk_laws.proofs.Arcs.{IsRowOf-between, Joined-row, between_rises}
use Rattle.walk_laws.proofs.graph.Graph.arcs.Goals as goal

pub returns-then-v-len-clause-each : goal.returns-then-v-len-clause-each
returns-then-v-len-clause-each c =
    let row = c.self.invariant.0.4 c.args.v (omega (arith, c.self.inside.starts.ok.0)) in
    rw (← c.self.view_is) row.each

pub returns-then-v-len-clause-joined : goal.returns-then-v-len-clause-joined
returns-then-v-len-clause-joined c = λ t w.
    let row = c.self.invariant.0.4 c.args.v (omega (arith, c.self.inside.starts.ok.0)) in
    rw (← c.self.view_is) (Joined-row c.self.inside.edges.items c.args.v _ row t w)

pub slice_bounds-result-count : goal.slice_bounds-result-count
slice_bounds-result-count c =
    let starts = c.self.inside.starts in
    between_rises starts.items c.args.v c.index.result.now c.index-2.result.now c.self.invariant.0.1 (omega (arith, starts.ok.0)) c.index.ensures c.index-2.ensures

pub slice_bounds-result-start : goal.slice_bounds-result-start
slice_bounds-result-start c =
    let starts = c.self.inside.starts in
    between_rises starts.items c.args.v c.index.result.now c.index-2.result.now c.self.invariant.0.1 (omega (arith, starts.ok.0)) c.index.ensures c.index-2.ensures

pub returns : goal.returns
returns c =
    let g = c.self.inside in
    let row = IsRowOf-between g.n g.edges.items g.arcs.items g.starts.items c.self.invariant.0 c.args.v c.index.result.now c.index-2.result.now c.requires.node (omega (arith, g.starts.ok.0)) c.index.ensures c.index-2.ensures in
    rw (← c.self.view_is, c.deref.ensures.value) (record { rising = row.rising; each = row.each; joined = λ t w. Joined-row g.edges.items c.args.v _ row t w })
