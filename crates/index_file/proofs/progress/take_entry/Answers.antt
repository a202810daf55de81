use Rattle.std.proofs.Common.{◌≡◌, [], Ok, true, is_some, ap, sym, ◌+◌, ◌∙◌}
use Rattle.std.proofs.lemmas.Result.{err_from_is_err_and}
use Rattle.index_file.proofs.Steps.{Refuses-part, fed-traced, fed-refused_via}
use Rattle.index_file.specs.Parts.{Part, with_entry, with_via}
use Rattle.index_file.specs.Judging.{after_entry}
use Rattle.index_file.specs.Gives.{at_position, entry_width}
use Rattle.index_file.proofs.progress.take_entry.Goals as goal

pub returns-in_err-entry-clause-refused : goal.returns-in_err-entry-clause-refused
returns-in_err-entry-clause-refused c =
    let p = err_from_is_err_and c.from_residual.result c.from_residual.ensures.1 in
    rw (p.1, p.2) (λ at. Refuses-part (at_position c.args.done.now c.args.part.now at) c.args.field.now c.split_at.result.0.now c.split_at.result.1.now _ c.split_at.ensures.by_index.0 (c.in_err-entry.ensures.refused at))

pub returns-in_err-via-clause-refused : goal.returns-in_err-via-clause-refused
returns-in_err-via-clause-refused c =
    let p = err_from_is_err_and c.from_residual-in_err-via.result c.from_residual-in_err-via.ensures.1 in
    let traced : is_some c.args.done.now.vias ≡ true = sym c.is_traced.ensures ∙ c.if-not-is_traced.false in
    rw (p.1, p.2) (λ at. fed-refused_via c.args.done.now c.args.part.now c.in_ok-entry.entry at c.args.field.now c.split_at.result.0.now c.split_at.result.1.now _ traced c.split_at.ensures.by_index.0 (c.in_ok-entry.ensures.taken at) (c.in_err-via.ensures.refused (at + 12)))

pub returns-clause-taken : goal.returns-clause-taken
returns-clause-taken c = λ at.
    let traced : is_some c.args.done.now.vias ≡ true = sym c.is_traced.ensures ∙ c.if-not-is_traced.false in
    let new : with_via (with_entry c.args.part.now c.in_ok-entry.entry) c.in_ok-via.via ≡ c.push-2.new.self = ap (λ (p : Part). with_entry p c.in_ok-entry.entry) (sym c.in_ok-push_via.ensures.ok) ∙ sym c.in_ok-push-2.ensures.ok in
    fed-traced c.args.done.now c.args.part.now c.in_ok-entry.entry c.in_ok-via.via at c.args.field.now c.split_at.result.0.now c.split_at.result.1.now traced c.split_at.ensures.by_index.0 (c.in_ok-entry.ensures.taken at) (c.in_ok-via.ensures.taken (at + 12))
    ∙ ap (λ (p : Part). Ok (record { next = after_entry c.args.done.now p; held = []; at = at + entry_width c.args.done.now })) new
