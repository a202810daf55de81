use Rattle.std.proofs.Common.{ℕ, ◌≤◌, List, ◌++◌, map, sym, ap, subst, ◌∙◌, arith}
use Rattle.walk_laws.specs.declared.entry.Entry.{Entry}
use Rattle.walk_laws.specs.declared.graph.Edge.{Edge}
use Rattle.walk_laws.specs.Graph.{IsGraph}
use Rattle.walk_laws.specs.Joined.{Joined}
use Rattle.walk_laws.proofs.JoinedEdges.{Joined-positive, weights_of_edges}
use Rattle.entry_vias.specs.RowVias.{AreRowVias}
use Rattle.entry_vias.specs.Slots.{slot_at, via_in}
use Rattle.entry_vias.proofs.RowFacts.{row_within, row_fits}
use Rattle.entry_vias.proofs.Found.{row_found, no_other}
use Rattle.entry_vias.proofs.looking.find_vias.Goals as goal

-- each arc of a graph weighs at least 1
weights : (n : ℕ) (edges : List Edge) (v : ℕ) → IsGraph n edges → (y w : ℕ) → Joined edges v y w → 1 ≤ w
weights n edges v graph y w arc = Joined-positive edges (weights_of_edges n edges graph.edge) v y w arc

pub lay_out-sought-requires-clause-within : goal.lay_out-sought-requires-clause-within
lay_out-sought-requires-clause-within c =
    let index = c.args.index.now in
    rw c.row-row.ensures.value (λ k d lt. omega (arith, row_within index.order index.rows c.args.v c.row-row.ensures.well_formed c.requires.node (omega (arith, c.requires.within, c.requires.size)) k d lt, c.requires.table))

pub lay_out-sought-requires-clause-fits : goal.lay_out-sought-requires-clause-fits
lay_out-sought-requires-clause-fits c =
    let index = c.args.index.now in
    rw c.row-row.ensures.value (row_fits index.order index.rows c.args.v c.row-row.ensures.well_formed c.requires.node (omega (arith, c.requires.within, c.requires.size)))

pub push_vias-requires : goal.push_vias-requires
push_vias-requires c =
    let index = c.args.index.now in
    rw c.row-row.ensures.value (λ k d lt. omega (arith, row_within index.order index.rows c.args.v c.row-row.ensures.well_formed c.requires.node (omega (arith, c.requires.within, c.requires.size)) k d lt, c.requires.table, c.lay_out-sought.ensures.size, c.look_around.ensures.size))

pub clear-requires-2-clause-within : goal.clear-requires-2-clause-within
clear-requires-2-clause-within c =
    let index = c.args.index.now in
    rw c.row-row.ensures.value (λ k d lt. omega (arith, row_within index.order index.rows c.args.v c.row-row.ensures.well_formed c.requires.node (omega (arith, c.requires.within, c.requires.size)) k d lt, c.requires.table, c.lay_out-sought.ensures.size, c.look_around.ensures.size))

pub clear-requires-2-clause-others : goal.clear-requires-2-clause-others
clear-requires-2-clause-others c =
    let laid = rw c.row-row.ensures.value at c.lay_out-sought.ensures.row in
    rw c.row-row.ensures.value (no_other (Joined c.args.graph.now.edges) c.args.index.now.rows c.args.v (weights c.args.graph.now.n c.args.graph.now.edges c.args.v c.requires.graph) c.lay_out-sought.new.table c.look_around.new.table laid c.look_around.ensures.each)

pub returns-clause-vias : goal.returns-clause-vias
returns-clause-vias c =
    let index = c.args.index.now in
    let laid = rw c.row-row.ensures.value at c.lay_out-sought.ensures.row in
    let found = row_found (Joined c.args.graph.now.edges) index.rows c.args.v (weights c.args.graph.now.n c.args.graph.now.edges c.args.v c.requires.graph) c.lay_out-sought.new.table c.look_around.new.table laid c.look_around.ensures.each in
    let told : List Entry → List ℕ = λ row. map (λ e. via_in (slot_at c.look_around.new.table e.pos)) row in
    subst (AreRowVias (Joined c.args.graph.now.edges) index.rows c.args.v) (sym (c.in_ok-push_vias.ensures ∙ ap (λ (xs : List ℕ). xs ++ told c.row-row.result.now) c.clear.ensures.items ∙ ap told c.row-row.ensures.value)) found
