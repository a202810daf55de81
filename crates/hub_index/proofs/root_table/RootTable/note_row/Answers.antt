use Rattle.std.proofs.Common.{get_or, take, ap, sym, ◌∙◌, length, arith}
use Rattle.std.proofs.lemmas.List.{get_or_read, take_all}
use Rattle.walk_laws.specs.declared.entry.Entry.{Entry}
use Rattle.hub_index.specs.RootDistances.{noted, with_noted}
use Rattle.hub_index.proofs.NotedRows.{length-noted, noted-next}
use Rattle.hub_index.proofs.root_table.RootTable.note_row.Goals as goal

pub note-requires : goal.note-requires
note-requires c =
    let inside = c.requires c.loop-entry.entry-index (record { pos = 0; dist = 0 }) c.loop-entry-test.true in
    let item = get_or_read c.args.row.now c.loop-entry.entry-index _ c.loop-entry-test.true c.entry-item.is (record { pos = 0; dist = 0 }) in
    omega (arith, inside, ap (λ (e : Entry). e.pos) item, ap length c.loop-entry.invariant, length-noted c.args.self.now (take c.loop-entry.entry-index c.args.row.now))

pub loop-entry-preserved : goal.loop-entry-preserved
loop-entry-preserved c =
    c.note.ensures
    ∙ ap (λ e. with_noted c.loop-entry.self e) (get_or_read c.args.row.now c.loop-entry.entry-index _ c.loop-entry-test.true c.entry-item.is (record { pos = 0; dist = 0 }))
    ∙ ap (λ t. with_noted t (get_or c.args.row.now c.loop-entry.entry-index (record { pos = 0; dist = 0 }))) c.loop-entry.invariant
    ∙ sym (noted-next c.args.self.now c.args.row.now c.loop-entry.entry-index (record { pos = 0; dist = 0 }) c.loop-entry-test.true)

pub returns : goal.returns
returns c = c.loop-entry.invariant ∙ ap (noted c.args.self.now) (take_all c.loop-entry.entry-index c.args.row.now c.loop-entry-test.false)
