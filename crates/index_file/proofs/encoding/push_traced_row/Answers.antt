use Rattle.std.proofs.Common.{◌≡◌, ◌<◌, ◌+◌, ◌++◌, length, take, zip, get_or, sym, ap, subst, ◌∙◌, append_assoc, arith}
use Rattle.std.specs.Prelude.{flat_map}
use Rattle.std.proofs.lemmas.List.{take_all, get_or_read}
use Rattle.std.proofs.lemmas.Slice.Zip.{length-zip, get_or-zip}
use Rattle.walk_laws.specs.declared.entry.Entry.{Entry}
use Rattle.hub_index.specs.CompactRows.{row_of_parts}
use Rattle.hub_index.specs.declared.compact_row.CompactEntry.{CompactEntry}
use Rattle.index_file.specs.Layout.{word, traced_entry_bytes}
use Rattle.index_file.proofs.PutAfter.{put_after}
use Rattle.index_file.proofs.RowParts.{length-row_of_parts, compact_at, full_at}
use Rattle.index_file.proofs.encoding.push_traced_row.Goals as goal

abbrev none : Entry
none = record { pos = 0; dist = 0 }

abbrev compact_none : CompactEntry
compact_none = record { pos = 0; dist = 0 }

pub bounds-vias-i : goal.bounds-vias-i
bounds-vias-i c = omega (arith, c.requires.vias, length-row_of_parts c.args.compact.now c.args.full.now)

pub loop-i-preserved : goal.loop-i-preserved
loop-i-preserved c =
    let compact = c.args.compact.now in
    let full = c.args.full.now in
    let vias = c.args.vias.now in
    let i = c.loop-i.i in
    let lt : i < length compact = omega arith in
    let within : i < length (row_of_parts compact full) = omega (arith, length-row_of_parts compact full) in
    let beside : i < length vias = omega (arith, c.requires.vias, within) in
    let entry : Entry = record { pos = (get_or compact i compact_none).pos; dist = c.from.result } in
    let is = compact_at compact full i none compact_none lt ∙ ap (λ d. record { pos = (get_or compact i compact_none).pos; dist = d }) (sym c.from.ensures) in
    put_after traced_entry_bytes (zip (row_of_parts compact full) vias) i (entry, get_or vias i 0) (none, 0) (c.args.out.now.items ++ word (length (row_of_parts compact full))) c.loop-i.out.items c.push_traced_entry.new.out.items
    (omega (arith, length-zip (row_of_parts compact full) vias, within, beside)) (get_or-zip (row_of_parts compact full) vias i (none, 0) within beside ∙ ap (λ e. (e, get_or vias i 0)) is) c.loop-i.invariant c.in_ok-push_traced_entry.ensures

pub loop-i-2-preserved : goal.loop-i-2-preserved
loop-i-2-preserved c =
    let compact = c.args.compact.now in
    let full = c.args.full.now in
    let vias = c.args.vias.now in
    let i = c.loop-i-2.i in
    let lt : i < length full = omega arith in
    let within : length compact + i < length (row_of_parts compact full) = omega (arith, length-row_of_parts compact full) in
    let beside : length compact + i < length vias = omega (arith, c.requires.vias, within) in
    let old = c.args.out.now.items ++ word (length (row_of_parts compact full)) in
    let entry : Entry = record { pos = c.index-full-i.result.pos; dist = c.get_u64.result } in
    let read : c.index-full-i.result ≡ get_or c.args.full.now i none = get_or_read c.args.full.now i _ lt c.index-full-i.is none in
    let is = full_at compact full i none ∙ sym read ∙ ap (λ d. record { pos = c.index-full-i.result.pos; dist = d }) (sym c.get_u64.ensures) in
    let next : length compact + i + 1 ≡ length compact + (i + 1) = omega arith in
    subst (λ k. c.push_traced_entry-in-loop-i-2.new.out.items ≡ old ++ flat_map traced_entry_bytes (take k (zip (row_of_parts compact full) vias))) next
    (put_after traced_entry_bytes (zip (row_of_parts compact full) vias) (length compact + i) (entry, get_or vias (length compact + i) 0) (none, 0) old c.loop-i-2.out.items c.push_traced_entry-in-loop-i-2.new.out.items
    (omega (arith, length-zip (row_of_parts compact full) vias, within, beside)) (get_or-zip (row_of_parts compact full) vias (length compact + i) (none, 0) within beside ∙ ap (λ e. (e, get_or vias (length compact + i) 0)) is) c.loop-i-2.invariant c.in_ok-push_traced_entry-2.ensures)

pub returns : goal.returns
returns c =
    let compact = c.args.compact.now in
    let full = c.args.full.now in
    let vias = c.args.vias.now in
    let count = word (length (row_of_parts compact full)) in
    let all : take (length compact + c.loop-i-2.i) (zip (row_of_parts compact full) vias) ≡ zip (row_of_parts compact full) vias = take_all (length compact + c.loop-i-2.i) (zip (row_of_parts compact full) vias) (omega (arith, length-zip (row_of_parts compact full) vias, length-row_of_parts compact full, c.loop-i-2-test.false)) in
    c.loop-i-2.invariant ∙ ap (λ xs. (c.args.out.now.items ++ count) ++ flat_map traced_entry_bytes xs) all ∙ append_assoc c.args.out.now.items count (flat_map traced_entry_bytes (zip (row_of_parts compact full) vias))
