use Rattle.std.proofs.Common.{inr, refl}
use Rattle.std.proofs.lemmas.Result.{err_from_is_err_and}
use Rattle.index_file.proofs.field.after_position.Goals as goal

pub returns-in_err-accept_position : goal.returns-in_err-accept_position
returns-in_err-accept_position c =
    let p = err_from_is_err_and c.from_residual.result c.from_residual.ensures.1 in
    let no = c.in_err-accept_position.ensures.refused in
    rw (p.1, p.2) (inr (rw (no.0, no.1) refl))

pub returns : goal.returns
returns c = rw c.in_ok-accept_position.ensures.accepted refl
