use Rattle.std.proofs.Common.{◌≡◌, ◌+◌, Ok, ap, ◌∙◌, arith}
use Rattle.std.proofs.lemmas.Result.{IfOk-weaker, IfErr-weaker, err_from_is_err_and}
use Rattle.index_file.specs.Judging.{fed}
use Rattle.index_file.specs.Cutting.{fed-append}
use Rattle.index_file.specs.Gives.{at_position, at_count, entry_width}
use Rattle.index_file.proofs.Steps.{Refuses-part, Refuses-then}
use Rattle.index_file.proofs.progress.next_row.Goals as goal

pub returns-in_err-end_row-clause-refused : goal.returns-in_err-end_row-clause-refused
returns-in_err-end_row-clause-refused c =
    let p = err_from_is_err_and c.from_residual.result c.from_residual.ensures.1 in
    rw (p.1, p.2) (λ at. Refuses-part (at_position c.args.done.now c.args.part at) c.args.field.now c.split_at.result.0.now c.split_at.result.1.now _ c.split_at.ensures.by_index.0 (c.in_err-end_row.ensures.refused at))

pub begin_row-requires-clause-small : goal.begin_row-requires-clause-small
begin_row-requires-clause-small c = c.in_ok-end_row.ensures.small

pub returns-clause-taken : goal.returns-clause-taken
returns-clause-taken c =
    let width = entry_width c.args.done.now in
    IfOk-weaker c.begin_row.result _ _ (λ row taken at.
    let end : at + width + 4 ≡ at + (width + 4) = omega arith in
    ap (fed (Ok (at_position c.args.done.now c.args.part at))) c.split_at.ensures.by_index.0
    ∙ fed-append (Ok (at_position c.args.done.now c.args.part at)) c.split_at.result.0.now c.split_at.result.1.now
    ∙ ap (λ r. fed r c.split_at.result.1.now) (c.in_ok-end_row.ensures.taken at)
    ∙ taken (at + width)
    ∙ ap (λ k. Ok (at_position c.end_row.new.done row k)) end) c.begin_row.ensures.taken

pub returns-clause-refused : goal.returns-clause-refused
returns-clause-refused c =
    let width = entry_width c.args.done.now in
    IfErr-weaker c.begin_row.result _ _ (λ e refuses at.
    Refuses-then (at_position c.args.done.now c.args.part at) (at_count c.end_row.new.done (at + width)) c.args.field.now c.split_at.result.1.now e
    (record { taken = c.split_at.result.0.now; parts = c.split_at.ensures.by_index.0; leads = c.in_ok-end_row.ensures.taken at }) (refuses (at + width))) c.begin_row.ensures.refused
