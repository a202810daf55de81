use Rattle.std.proofs.Common.{◌∙◌, refl, arith}
use Rattle.std.proofs.lemmas.Result.{IfOk-weaker}
use Rattle.chl_lines.proofs.HitParts.{hit_part_is}
use Rattle.chl_lines.proofs.near.part_lines.Goals as goal

pub returns : goal.returns
returns c =
    IfOk-weaker c.lines_between.result _ _
    (λ text is. is ∙ hit_part_is c.args.sources.now c.args.hits.now c.args.part _ _ c.requires.same refl (omega (arith, c.min.ensures)))
    c.lines_between.ensures
