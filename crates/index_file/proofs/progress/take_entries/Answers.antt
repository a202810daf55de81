use Rattle.std.proofs.Common.{◌≡◌, false, [], Ok, sym, ap, subst, ◌+◌, ◌∙◌, arith}
use Rattle.std.proofs.lemmas.Grind.{common_steps}
use Rattle.std.proofs.lemmas.Result.{err_from_is_err_and}
use Rattle.index_file.specs.declared.next.Next.{Next}
use Rattle.index_file.specs.Parts.{is_last}
use Rattle.index_file.specs.Judging.{fed}
use Rattle.index_file.specs.Gives.{at_position, entry_width}
use Rattle.index_file.proofs.Sizes.{offset-le}
use Rattle.index_file.proofs.Steps.{Runs-more, Refuses-part, Refuses-then, entry_width-between, open_row}
use Rattle.index_file.proofs.progress.take_entries.Goals as goal

pub nonzero_div-bytes : goal.nonzero_div-bytes
nonzero_div-bytes c = omega (arith, entry_width-between c.args.done.now, c.entry_width-size.ensures)

pub overflow_add-at : goal.overflow_add-at
overflow_add-at c = omega (arith, offset-le (at_position c.args.done.now c.loop-rest.part c.loop-rest.at) c.loop-rest.invariant.sound, entry_width-between c.args.done.now, c.entry_width-size.ensures)

pub returns-in_err-take_entry-clause-refused : goal.returns-in_err-take_entry-clause-refused
returns-in_err-take_entry-clause-refused c =
    let p = err_from_is_err_and c.from_residual-in_err-take_entry.result c.from_residual-in_err-take_entry.ensures.1 in
    let cur = at_position c.args.done.now c.loop-rest.part c.loop-rest.at in
    rw (p.1, p.2) (Refuses-then (at_position c.args.done.now c.args.part c.args.at) cur c.args.bytes.now c.loop-rest.rest.now _ c.loop-rest.invariant.takes (Refuses-part cur c.loop-rest.rest.now c.split_at.result.0.now c.split_at.result.1.now _ c.split_at.ensures.by_index.0 (c.in_err-take_entry.ensures.refused c.loop-rest.at)))

pub loop-rest-preserved : goal.loop-rest-preserved
loop-rest-preserved c =
    let size : entry_width c.args.done.now ≡ c.entry_width-size.result = sym c.entry_width-size.ensures in
    let more : is_last c.loop-rest.part ≡ false = grind (arith, common_steps) in
    let next = open_row c.args.done.now c.loop-rest.part c.take_entry.new.part more c.in_ok-take_entry.ensures.count c.in_ok-take_entry.ensures.more in
    let taken = c.in_ok-take_entry.ensures.taken c.loop-rest.at ∙ ap (λ (n : Next). Ok (record { next = n; held = []; at = c.loop-rest.at + entry_width c.args.done.now })) next in
    let led = subst (λ k. fed (Ok (at_position c.args.done.now c.loop-rest.part c.loop-rest.at)) c.split_at.result.0.now ≡ Ok (at_position c.args.done.now c.take_entry.new.part (c.loop-rest.at + k))) size taken in
    Runs-more (at_position c.args.done.now c.args.part c.args.at) (at_position c.args.done.now c.loop-rest.part c.loop-rest.at) _ c.args.bytes.now c.loop-rest.rest.now c.split_at.result.0.now c.split_at.result.1.now c.loop-rest.invariant (λ i. omega (arith, c.type_inv.bytes i)) c.split_at.ensures.by_index.0 led
