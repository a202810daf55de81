use Rattle.std.proofs.Common.{sym, ◌∙◌, inl, inr, arith}
use Rattle.walk_laws.specs.Joined.{Joined}
use Rattle.hub_query.proofs.ArcsInOrder.{no_arc, arc_at}
use Rattle.index_audit.proofs.Around.{told_nearer, told_covered, told_uncovered, told_step, told_cover, walked_by}
use Rattle.index_audit.proofs.neighbours.look_around.Goals as goal
use Rattle.index_audit.proofs.neighbours.look_around.Goals.{in-Nearer, in-Covered, in-Uncovered}

pub look_at-requires-clause-node : goal.look_at-requires-clause-node
look_at-requires-clause-node c =
    (arc_at c.args.graph.now.n c.args.graph.now.edges c.args.v c.arcs-arc-items.result.now c.loop-arc.arc-index no_arc c.requires.graph c.requires.node c.requires.within c.arcs-arc-items.ensures.joined c.loop-arc-test.true).from_one

pub look_at-requires-clause-within : goal.look_at-requires-clause-within
look_at-requires-clause-within c =
    let arc = arc_at c.args.graph.now.n c.args.graph.now.edges c.args.v c.arcs-arc-items.result.now c.loop-arc.arc-index no_arc c.requires.graph c.requires.node c.requires.within c.arcs-arc-items.ensures.joined c.loop-arc-test.true in
    omega (arith, arc.up_to_n, c.requires.size)

pub loop-arc-preserved : goal.loop-arc-preserved
loop-arc-preserved c =
    let J = Joined c.args.graph.now.edges in
    let arcs = c.arcs-arc-items in
    elim c.match-look_at.branch [
      | in-Nearer w ↦ rw (w.nearer-is, w.uncovered-is, w.or-nearer.ensures) (told_nearer J c.args.index.now.rows c.args.v arcs.result.now c.args.hub c.args.entry arcs.ensures.joined arcs.ensures.rising c.loop-arc.arc-index c.loop-arc-test.true c.loop-arc.nearer c.loop-arc.uncovered c.loop-arc.invariant w.in-Nearer.ensures)
      | in-Covered w ↦ rw (w.nearer-is, w.uncovered-is) (told_covered J c.args.index.now.rows c.args.v arcs.result.now c.args.hub c.args.entry arcs.ensures.joined arcs.ensures.rising c.loop-arc.arc-index c.loop-arc-test.true c.loop-arc.nearer c.loop-arc.uncovered c.loop-arc.invariant w.in-Covered.ensures)
      | in-Uncovered w ↦ rw (w.nearer-is, w.uncovered-is, w.or-uncovered.ensures) (told_uncovered J c.args.index.now.rows c.args.v arcs.result.now c.args.hub c.args.entry arcs.ensures.joined arcs.ensures.rising c.loop-arc.arc-index c.loop-arc-test.true c.loop-arc.nearer c.loop-arc.uncovered c.loop-arc.invariant w.in-Uncovered.ensures)
    ]

pub returns-then-hub-v-clause-nearer : goal.returns-then-hub-v-clause-nearer
returns-then-hub-v-clause-nearer c =
    let arcs = c.arcs-arc-items in
    told_step (Joined c.args.graph.now.edges) c.args.index.now.rows c.args.v arcs.result.now c.args.hub c.args.entry arcs.ensures.joined arcs.ensures.rising c.loop-arc.arc-index (omega (arith, c.loop-arc-test.false)) c.loop-arc.nearer c.loop-arc.uncovered c.loop-arc.invariant

pub returns-then-hub-v-clause-covered : goal.returns-then-hub-v-clause-covered
returns-then-hub-v-clause-covered c =
    let arcs = c.arcs-arc-items in
    told_cover (Joined c.args.graph.now.edges) c.args.index.now.rows c.args.v arcs.result.now c.args.hub c.args.entry arcs.ensures.joined arcs.ensures.rising c.loop-arc.arc-index (omega (arith, c.loop-arc-test.false)) c.loop-arc.nearer c.loop-arc.uncovered c.loop-arc.invariant

pub returns-else-hub-v-clause-nearer : goal.returns-else-hub-v-clause-nearer
returns-else-hub-v-clause-nearer c =
    let arcs = c.arcs-arc-items in
    told_step (Joined c.args.graph.now.edges) c.args.index.now.rows c.args.v arcs.result.now c.args.hub c.args.entry arcs.ensures.joined arcs.ensures.rising c.loop-arc.arc-index (omega (arith, c.loop-arc-test.false)) c.loop-arc.nearer c.loop-arc.uncovered c.loop-arc.invariant

pub returns-else-hub-v-clause-covered : goal.returns-else-hub-v-clause-covered
returns-else-hub-v-clause-covered c =
    let arcs = c.arcs-arc-items in
    told_cover (Joined c.args.graph.now.edges) c.args.index.now.rows c.args.v arcs.result.now c.args.hub c.args.entry arcs.ensures.joined arcs.ensures.rising c.loop-arc.arc-index (omega (arith, c.loop-arc-test.false)) c.loop-arc.nearer c.loop-arc.uncovered c.loop-arc.invariant

pub returns-else-hub-v-clause-walked : goal.returns-else-hub-v-clause-walked
returns-else-hub-v-clause-walked c =
    let J = Joined c.args.graph.now.edges in
    let by = walked_by J c.args.index.now.rows c.args.v c.arcs-arc-items.result.now c.args.hub c.args.entry c.loop-arc.nearer (returns-else-hub-v-clause-nearer c) in (
      λ some. by.0 (inr (sym c.is_some.ensures ∙ some)),
      λ walked. elim (by.1 walked) [ inl same ↦ absurd (c.if-hub-v.false same) | inr some ↦ c.is_some.ensures ∙ some ],
    )
