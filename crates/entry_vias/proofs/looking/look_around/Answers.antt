use Rattle.std.proofs.Common.{◌≡◌, ◌∙◌, arith}
use Rattle.walk_laws.specs.Joined.{Joined}
use Rattle.walk_laws.specs.LightestArcs.{no_arc}
use Rattle.walk_laws.proofs.JoinedEdges.{arcs_of_row}
use Rattle.entry_vias.specs.Slots.{slot_at, sought_in}
use Rattle.entry_vias.proofs.RowFacts.{row_within, row_fits}
use Rattle.entry_vias.proofs.Arcs.{IsAfterArcs-next, IsAfterArcs-repeated, IsAfterAll-arcs, IsAfterAll-stopped}
use Rattle.entry_vias.proofs.Counts.{none_sought}
use Rattle.entry_vias.proofs.looking.look_around.Goals as goal

pub row-requires-clause-node : goal.row-requires-clause-node
row-requires-clause-node c =
    (arcs_of_row c.args.graph.now.n c.args.graph.now.edges c.args.v c.arcs-arcs.result.now c.requires.graph c.arcs-arcs.ensures.joined c.loop-k.k no_arc c.loop-k-test.true).from_one

pub row-requires-clause-within : goal.row-requires-clause-within
row-requires-clause-within c =
    let arc = arcs_of_row c.args.graph.now.n c.args.graph.now.edges c.args.v c.arcs-arcs.result.now c.requires.graph c.arcs-arcs.ensures.joined c.loop-k.k no_arc c.loop-k-test.true in
    omega (arith, arc.up_to_n, c.requires.size)

pub look_at-left-requires-clause-within : goal.look_at-left-requires-clause-within
look_at-left-requires-clause-within c =
    let arc = arcs_of_row c.args.graph.now.n c.args.graph.now.edges c.args.v c.arcs-arcs.result.now c.requires.graph c.arcs-arcs.ensures.joined c.loop-k.k no_arc c.loop-k-test.true in
    let index = c.args.index.now in
    rw c.row.ensures.value (λ k d lt. omega (arith, row_within index.order index.rows _ c.row.ensures.well_formed arc.from_one (omega (arith, arc.up_to_n, c.requires.size)) k d lt, c.loop-k.invariant.size, c.requires.table))

pub look_at-left-requires-clause-fits : goal.look_at-left-requires-clause-fits
look_at-left-requires-clause-fits c =
    let arc = arcs_of_row c.args.graph.now.n c.args.graph.now.edges c.args.v c.arcs-arcs.result.now c.requires.graph c.arcs-arcs.ensures.joined c.loop-k.k no_arc c.loop-k-test.true in
    let index = c.args.index.now in
    rw c.row.ensures.value (row_fits index.order index.rows _ c.row.ensures.well_formed arc.from_one (omega (arith, arc.up_to_n, c.requires.size)))

pub loop-k-preserved : goal.loop-k-preserved
loop-k-preserved c =
    let arcs = c.arcs-arcs in
    record {
      size = c.look_at-left.ensures.size ∙ c.loop-k.invariant.size;
      each = λ p.
          IsAfterArcs-next (Joined c.args.graph.now.edges) c.args.index.now.rows c.args.v arcs.result.now arcs.ensures.joined arcs.ensures.rising c.loop-k.k c.loop-k-test.true p
          (slot_at c.args.table.now p) (slot_at c.loop-k.table p) (slot_at c.look_at-left.new.table p) (c.loop-k.invariant.each p)
          (rw c.row.ensures.value at (c.look_at-left.ensures.each p));
      left = omega (arith, c.loop-k.invariant.left, c.look_at-left.ensures.found);
    }

pub returns-clause-each : goal.returns-clause-each
returns-clause-each c = λ p.
    let arcs = c.arcs-arcs in
    IsAfterAll-arcs (Joined c.args.graph.now.edges) c.args.index.now.rows c.args.v arcs.result.now arcs.ensures.joined c.loop-k.k p
    (slot_at c.args.table.now p) (slot_at c.loop-k.table p) (omega (arith, c.loop-k-test.false)) (c.loop-k.invariant.each p)

pub returns-then-left-eq0-clause-each : goal.returns-then-left-eq0-clause-each
returns-then-left-eq0-clause-each c = λ p.
    let arcs = c.arcs-arcs in
    let none : sought_in c.loop-k.table ≡ 0 = omega (arith, c.loop-k.invariant.left, c.if-left-eq0.true) in
    IsAfterAll-stopped (Joined c.args.graph.now.edges) c.args.index.now.rows c.args.v arcs.result.now arcs.ensures.joined c.loop-k.k p
    (slot_at c.args.table.now p) (slot_at c.loop-k.table p) (λ d is. none_sought c.loop-k.table p d none is) (c.loop-k.invariant.each p)

pub loop-k-preserved-then-is_repeated : goal.loop-k-preserved-then-is_repeated
loop-k-preserved-then-is_repeated c =
    let arcs = c.arcs-arcs in
    record {
      size = c.loop-k.invariant.size;
      each = λ p.
          IsAfterArcs-repeated (Joined c.args.graph.now.edges) c.args.index.now.rows c.args.v arcs.result.now arcs.ensures.joined arcs.ensures.rising c.loop-k.k c.loop-k-test.true
          (c.is_repeated.ensures.0 c.if-is_repeated.true) p (slot_at c.args.table.now p) (slot_at c.loop-k.table p) (c.loop-k.invariant.each p);
      left = c.loop-k.invariant.left;
    }
