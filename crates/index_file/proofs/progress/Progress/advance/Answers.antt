use Rattle.std.proofs.Common.{arith}
use Rattle.std.proofs.lemmas.Result.{IfOk-weaker, IfErr-weaker, err_from_is_err_and}
use Rattle.index_file.proofs.Steps.{Takes-then, Refuses-then, Takes-le}
use Rattle.index_file.proofs.progress.Progress.advance.Goals as goal

pub returns-in_err-stepped-clause-refused : goal.returns-in_err-stepped-clause-refused
returns-in_err-stepped-clause-refused c =
    let p = err_from_is_err_and c.from_residual.result c.from_residual.ensures.1 in
    rw (p.1, p.2) c.in_err-stepped.ensures.refused

pub returns-clause-taken : goal.returns-clause-taken
returns-clause-taken c =
    IfOk-weaker c.run.result _ _ (λ r takes. Takes-then c.args.self c.in_ok-stepped.stepped r.0 c.args.rest.now c.in_ok-stepped.left.now r.1.now c.in_ok-stepped.ensures.taken takes) c.run.ensures.taken

pub returns-clause-less : goal.returns-clause-less
returns-clause-less c =
    IfOk-weaker c.run.result _ _ (λ r takes. omega (arith, Takes-le c.in_ok-stepped.stepped c.in_ok-stepped.left.now r.0 r.1.now takes, c.in_ok-stepped.ensures.less)) c.run.ensures.taken

pub returns-clause-refused : goal.returns-clause-refused
returns-clause-refused c =
    IfErr-weaker c.run.result _ _ (λ e refuses. Refuses-then c.args.self c.in_ok-stepped.stepped c.args.rest.now c.in_ok-stepped.left.now e c.in_ok-stepped.ensures.taken refuses) c.run.ensures.refused
