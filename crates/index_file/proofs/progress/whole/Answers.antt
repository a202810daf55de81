use Rattle.std.proofs.Common.{Ok, sym, ap, ◌+◌, ◌∙◌, length, arith}
use Rattle.std.proofs.lemmas.Result.{err_from_is_err_and}
use Rattle.index_file.proofs.Sizes.{offset-le, width-le}
use Rattle.index_file.proofs.Steps.{fed-accepted, Gives-refused, IsSound-whole}
use Rattle.index_file.proofs.progress.whole.Goals as goal

pub returns-in_err-next : goal.returns-in_err-next
returns-in_err-next c =
    let p = err_from_is_err_and c.from_residual.result c.from_residual.ensures.1 in
    rw (p.1, p.2) (Gives-refused c.args.next c.args.at c.args.field.now _ c.requires.whole c.in_err-next.ensures)

pub overflow_add-result : goal.overflow_add-result
overflow_add-result c = omega (arith, offset-le _ c.requires.sound, width-le c.args.next, c.requires.whole)

pub invariant_of-result : goal.invariant_of-result
invariant_of-result c =
    IsSound-whole c.args.next c.args.at c.args.held.items c.args.field.now c.in_ok-next.next c.requires.sound c.requires.none (λ i. omega (arith, c.type_inv.field i)) c.requires.whole c.in_ok-next.ensures

pub returns : goal.returns
returns c =
    fed-accepted c.args.next c.args.at c.args.field.now c.in_ok-next.next c.requires.whole c.in_ok-next.ensures
    ∙ ap (λ held. Ok (record { next = c.in_ok-next.next; held = held; at = c.args.at + length c.args.field.now })) (sym c.requires.none)
