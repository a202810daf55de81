use Rattle.std.proofs.Common.{◌≡◌, ◌+◌, Ok, sym, subst, arith}
use Rattle.std.proofs.lemmas.Result.{err_from_is_err_and}
use Rattle.index_file.specs.Judging.{fed}
use Rattle.index_file.specs.Gives.{at_position, entry_width}
use Rattle.index_file.proofs.Sizes.{offset-le}
use Rattle.index_file.proofs.Steps.{Runs, Runs-more, Runs-then, Refuses-part, Refuses-then, entry_width-between}
use Rattle.index_file.proofs.progress.take_rows.Goals as goal
use Rattle.index_file.proofs.progress.take_rows.Goals.{In_ok-row}

-- with the last entry of a row and the number of entries of the next one
with_row_begun : (c : In_ok-row) → Runs (at_position c.args.done c.args.part c.args.at) c.args.bytes.now (at_position c.next_row.new.done c.in_ok-row.row (c.loop-alloc.at + (c.entry_width-size.result + 4))) c.split_at.result.1.now
with_row_begun c =
    let cur = at_position c.loop-alloc.done c.loop-alloc.part c.loop-alloc.at in
    let size : entry_width c.loop-alloc.done ≡ c.entry_width-size.result = sym c.entry_width-size.ensures in
    let led = subst (λ k. fed (Ok cur) c.split_at.result.0.now ≡ Ok (at_position c.next_row.new.done c.in_ok-row.row (c.loop-alloc.at + (k + 4)))) size (c.in_ok-row.ensures.taken c.loop-alloc.at) in
    Runs-more (at_position c.args.done c.args.part c.args.at) cur _ c.args.bytes.now c.loop-alloc.rest.now c.split_at.result.0.now c.split_at.result.1.now c.loop-alloc.invariant (λ i. omega (arith, c.type_inv.bytes i)) c.split_at.ensures.by_index.0 led

pub returns-in_err-row-clause-refused : goal.returns-in_err-row-clause-refused
returns-in_err-row-clause-refused c =
    let p = err_from_is_err_and c.from_residual-in_err-row.result c.from_residual-in_err-row.ensures.1 in
    let cur = at_position c.loop-alloc.done c.loop-alloc.part c.loop-alloc.at in
    rw (p.1, p.2) (Refuses-then (at_position c.args.done c.args.part c.args.at) cur c.args.bytes.now c.loop-alloc.rest.now _ c.loop-alloc.invariant.takes (Refuses-part cur c.loop-alloc.rest.now c.split_at.result.0.now c.split_at.result.1.now _ c.split_at.ensures.by_index.0 (c.in_err-row.ensures.refused c.loop-alloc.at)))

pub overflow_add-at : goal.overflow_add-at
overflow_add-at c = omega (arith, offset-le (at_position c.loop-alloc.done c.loop-alloc.part c.loop-alloc.at) c.loop-alloc.invariant.sound, entry_width-between c.loop-alloc.done, c.entry_width-size.ensures)

pub take_entries-requires-in-loop-alloc : goal.take_entries-requires-in-loop-alloc
take_entries-requires-in-loop-alloc c = (with_row_begun (goal.at.take_entries-requires-in-loop-alloc c).In_ok-row).sound

pub returns-in_err-taken-clause-refused : goal.returns-in_err-taken-clause-refused
returns-in_err-taken-clause-refused c =
    let p = err_from_is_err_and c.from_residual-in_err-taken.result c.from_residual-in_err-taken.ensures.1 in
    let begun = with_row_begun (goal.at.returns-in_err-taken-clause-refused c).In_ok-row in
    rw (p.1, p.2) (Refuses-then (at_position c.args.done c.args.part c.args.at) (at_position c.next_row.new.done c.in_ok-row.row (c.loop-alloc.at + (c.entry_width-size.result + 4))) c.args.bytes.now c.split_at.result.1.now _ begun.takes c.in_err-taken.ensures.refused)

pub loop-alloc-preserved : goal.loop-alloc-preserved
loop-alloc-preserved c =
    let begun = with_row_begun (goal.at.loop-alloc-preserved c).In_ok-row in
    Runs-then (at_position c.args.done c.args.part c.args.at) (at_position c.next_row.new.done c.in_ok-row.row (c.loop-alloc.at + (c.entry_width-size.result + 4))) _ c.args.bytes.now c.split_at.result.1.now _ begun c.in_ok-taken.ensures.sound c.in_ok-taken.ensures.taken
