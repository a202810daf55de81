use Rattle.std.proofs.Common.{inr, refl}
use Rattle.std.proofs.lemmas.Result.{err_from_is_err_and}
use Rattle.index_file.specs.Parts.{next_own}
use Rattle.index_file.proofs.SoundFields.{above_all}
use Rattle.index_file.proofs.field.after_distance.Goals as goal

pub returns-in_err-accept_distance : goal.returns-in_err-accept_distance
returns-in_err-accept_distance c =
    let p = err_from_is_err_and c.from_residual.result c.from_residual.ensures.1 in
    let no = c.in_err-accept_distance.ensures.refused in
    rw (p.1, p.2) (inr (rw (no.0, no.1) refl))

pub distance_accepted-requires-clause-above : goal.distance_accepted-requires-clause-above
distance_accepted-requires-clause-above c = above_all (next_own c.args.done) c.args.pos c.args.part c.requires.position

pub returns : goal.returns
returns c = rw (c.in_ok-accept_distance.ensures.accepted, c.in_ok-distance_accepted.ensures, c.of_u64.ensures) refl
