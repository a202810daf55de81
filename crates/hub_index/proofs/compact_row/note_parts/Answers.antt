use Rattle.std.proofs.Common.{◌≡◌, ◌<◌, [], ◌∷◌, All, length, get_or, take, sym, ap, subst, ◌∙◌, arith}
use Rattle.walk_laws.specs.declared.entry.Entry.{Entry}
use Rattle.hub_index.specs.RootDistances.{noted, with_noted}
use Rattle.hub_index.specs.CompactRows.{widened}
use Rattle.hub_index.proofs.NotedRows.{length-noted, noted-append}
use Rattle.hub_index.proofs.CompactEntries.{all_widened, widened_next, widened_whole, compact_within, full_within}
use Rattle.hub_index.proofs.compact_row.note_parts.Goals as goal

pub note-requires : goal.note-requires
note-requires c =
    let i = c.loop-entry.entry-index in
    let within = compact_within (length c.args.table.now) c.args.compact.now c.args.full.now c.requires i (record { pos = 0; dist = 0 }) c.loop-entry-test.true in
    let size = ap length c.loop-entry.invariant ∙ length-noted c.args.table.now (all_widened (take i c.args.compact.now)) in
    subst (λ (e : Entry). e.pos < length c.loop-entry.table) (sym c.widened.ensures) (omega (arith, within, size))

pub loop-entry-preserved : goal.loop-entry-preserved
loop-entry-preserved c =
    let compact = c.args.compact.now in
    let i = c.loop-entry.entry-index in
    let e : Entry = widened (get_or compact i (record { pos = 0; dist = 0 })) in
    c.note.ensures
    ∙ ap (λ x. with_noted c.loop-entry.table x) c.widened.ensures
    ∙ ap (λ t. with_noted t e) c.loop-entry.invariant
    ∙ sym (noted-append c.args.table.now (all_widened (take i compact)) (e ∷ []))
    ∙ ap (noted c.args.table.now) (sym (widened_next compact i (record { pos = 0; dist = 0 }) c.loop-entry-test.true))

pub note_row-requires : goal.note_row-requires
note_row-requires c =
    let size = ap length c.loop-entry.invariant ∙ length-noted c.args.table.now (all_widened (take c.loop-entry.entry-index c.args.compact.now)) in
    subst (λ n. All (λ e. e.pos < n) c.args.full.now) (sym size) (λ i d lt. full_within (length c.args.table.now) (all_widened c.args.compact.now) c.args.full.now c.requires i d lt)

pub returns : goal.returns
returns c =
    let first : c.loop-entry.table ≡ noted c.args.table.now (all_widened c.args.compact.now) = c.loop-entry.invariant ∙ ap (noted c.args.table.now) (widened_whole c.args.compact.now c.loop-entry.entry-index c.loop-entry-test.false) in
    c.note_row.ensures ∙ ap (λ t. noted t c.args.full.now) first ∙ sym (noted-append c.args.table.now (all_widened c.args.compact.now) c.args.full.now)
