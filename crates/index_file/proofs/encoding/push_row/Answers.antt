use Rattle.std.proofs.Common.{◌≡◌, ◌+◌, ◌++◌, length, take, get_or, sym, ap, subst, ◌∙◌, append_assoc, arith}
use Rattle.std.specs.Prelude.{flat_map}
use Rattle.std.proofs.lemmas.List.{take_all, get_or_read}
use Rattle.walk_laws.specs.declared.entry.Entry.{Entry}
use Rattle.hub_index.specs.CompactRows.{row_of_parts}
use Rattle.hub_index.specs.declared.compact_row.CompactEntry.{CompactEntry}
use Rattle.index_file.specs.Layout.{word, entry_bytes}
use Rattle.index_file.proofs.PutAfter.{put_after}
use Rattle.index_file.proofs.RowParts.{length-row_of_parts, compact_at, full_at}
use Rattle.index_file.proofs.encoding.push_row.Goals as goal

abbrev none : Entry
none = record { pos = 0; dist = 0 }

abbrev compact_none : CompactEntry
compact_none = record { pos = 0; dist = 0 }

pub loop-entry-preserved : goal.loop-entry-preserved
loop-entry-preserved c =
    let compact = c.args.compact.now in
    let full = c.args.full.now in
    let i = c.loop-entry.entry-index in
    let entry : Entry = record { pos = (get_or compact i compact_none).pos; dist = c.from.result } in
    let is = compact_at compact full i none compact_none c.loop-entry-test.true ∙ ap (λ d. record { pos = (get_or compact i compact_none).pos; dist = d }) (sym c.from.ensures) in
    put_after entry_bytes (row_of_parts compact full) i entry none (c.args.out.now.items ++ word (length (row_of_parts compact full))) c.loop-entry.out.items c.push_entry.new.out.items
    (omega (arith, length-row_of_parts compact full, c.loop-entry-test.true)) is c.loop-entry.invariant c.in_ok-push_entry.ensures

pub loop-entry-2-preserved : goal.loop-entry-2-preserved
loop-entry-2-preserved c =
    let compact = c.args.compact.now in
    let full = c.args.full.now in
    let i = c.loop-entry-2.entry-index in
    let entry : Entry = record { pos = c.entry-item.result.pos; dist = c.get_u64.result } in
    let read : c.entry-item.result ≡ get_or c.args.full.now i none = get_or_read c.args.full.now i _ c.loop-entry-2-test.true c.entry-item.is none in
    let is = full_at compact full i none ∙ sym read ∙ ap (λ d. record { pos = c.entry-item.result.pos; dist = d }) (sym c.get_u64.ensures) in
    let old = c.args.out.now.items ++ word (length (row_of_parts compact full)) in
    let next : length compact + i + 1 ≡ length compact + (i + 1) = omega arith in
    subst (λ k. c.push_entry-in-loop-entry-2.new.out.items ≡ old ++ flat_map entry_bytes (take k (row_of_parts compact full))) next
    (put_after entry_bytes (row_of_parts compact full) (length compact + i) entry none old c.loop-entry-2.out.items c.push_entry-in-loop-entry-2.new.out.items
    (omega (arith, length-row_of_parts compact full, c.loop-entry-2-test.true)) is c.loop-entry-2.invariant c.in_ok-push_entry-2.ensures)

pub returns : goal.returns
returns c =
    let compact = c.args.compact.now in
    let full = c.args.full.now in
    let count = word (length (row_of_parts compact full)) in
    let all : take (length compact + c.loop-entry-2.entry-index) (row_of_parts compact full) ≡ row_of_parts compact full = take_all (length compact + c.loop-entry-2.entry-index) (row_of_parts compact full) (omega (arith, length-row_of_parts compact full, c.loop-entry-2-test.false)) in
    c.loop-entry-2.invariant ∙ ap (λ xs. (c.args.out.now.items ++ count) ++ flat_map entry_bytes xs) all ∙ append_assoc c.args.out.now.items count (flat_map entry_bytes (row_of_parts compact full))
