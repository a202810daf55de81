use Rattle.std.proofs.Common.{[], ◌∷◌, ◌++◌, get_or, take, sym, ap, ◌∙◌, append_assoc}
use Rattle.std.proofs.lemmas.List.{append-nil, get_or_read, take_all, take_more}
use Rattle.walk_laws.specs.declared.entry.Entry.{Entry}
use Rattle.hub_index.proofs.CompactEntries.{all_widened, widened_next, widened_whole}
use Rattle.hub_index.proofs.compact_row.joined_parts.Goals as goal

pub loop-entry-preserved : goal.loop-entry-preserved
loop-entry-preserved c =
    c.in_ok-push.ensures.items
    ∙ ap (λ es. es ++ c.widened.result ∷ []) c.loop-entry.invariant
    ∙ ap (λ e. all_widened (take c.loop-entry.entry-index c.args.compact.now) ++ e ∷ []) c.widened.ensures
    ∙ sym (widened_next c.args.compact.now c.loop-entry.entry-index (record { pos = 0; dist = 0 }) c.loop-entry-test.true)

pub loop-entry-2-init : goal.loop-entry-2-init
loop-entry-2-init c = c.loop-entry.invariant ∙ widened_whole c.args.compact.now c.loop-entry.entry-index c.loop-entry-test.false ∙ sym (append-nil (all_widened c.args.compact.now))

pub loop-entry-2-preserved : goal.loop-entry-2-preserved
loop-entry-2-preserved c =
    let e : Entry = get_or c.args.full.now c.loop-entry-2.entry-index (record { pos = 0; dist = 0 }) in
    let item = get_or_read c.args.full.now c.loop-entry-2.entry-index _ c.loop-entry-2-test.true c.entry-item.is (record { pos = 0; dist = 0 }) in
    c.in_ok-push-2.ensures.items
    ∙ ap (λ x. c.loop-entry-2.entries.items ++ x ∷ []) item
    ∙ ap (λ es. es ++ e ∷ []) c.loop-entry-2.invariant
    ∙ append_assoc (all_widened c.args.compact.now) (take c.loop-entry-2.entry-index c.args.full.now) (e ∷ [])
    ∙ ap (λ es. all_widened c.args.compact.now ++ es) (sym (take_more c.args.full.now c.loop-entry-2.entry-index (record { pos = 0; dist = 0 }) c.loop-entry-2-test.true))

pub returns : goal.returns
returns c = c.loop-entry-2.invariant ∙ ap (λ es. all_widened c.args.compact.now ++ es) (take_all c.loop-entry-2.entry-index c.args.full.now c.loop-entry-2-test.false)
