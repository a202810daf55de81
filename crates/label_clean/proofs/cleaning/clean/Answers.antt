use Rattle.std.proofs.Common.{arith}
use Rattle.std.proofs.lemmas.Result.{IfOk-weaker}
use Rattle.label_clean.proofs.Cleaned.{HoldsBelow-together}
use Rattle.label_clean.proofs.cleaning.clean.Goals as goal

pub returns : goal.returns
returns g c =
    IfOk-weaker c.clean_in_place.result _ _
    (λ rows cleaned edges p holds. cleaned edges p (HoldsBelow-together edges c.args.ranking.now p c.args.global.now c.args.raw.now c.in_ok-all.all (λ v from_one up_to_n. c.in_ok-all.ensures.rows v from_one (omega (arith, up_to_n, c.requires.raw_size))) holds)) c.clean_in_place.ensures
