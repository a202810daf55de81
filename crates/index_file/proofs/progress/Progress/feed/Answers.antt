use Rattle.std.proofs.lemmas.Result.{err_from_is_err_and}
use Rattle.index_file.proofs.Steps.{Takes-then, Refuses-then}
use Rattle.index_file.proofs.progress.Progress.feed.Goals as goal

pub returns-in_err-moved : goal.returns-in_err-moved
returns-in_err-moved c =
    let p = err_from_is_err_and c.from_residual.result c.from_residual.ensures.1 in
    rw (p.1, p.2) (Refuses-then c.args.self c.loop-rest.progress c.args.piece.now c.loop-rest.rest.now _ c.loop-rest.invariant c.in_err-moved.ensures.refused)

pub loop-rest-preserved : goal.loop-rest-preserved
loop-rest-preserved c =
    Takes-then c.args.self c.loop-rest.progress c.in_ok-moved.moved c.args.piece.now c.loop-rest.rest.now c.in_ok-moved.left.now c.loop-rest.invariant c.in_ok-moved.ensures.taken
