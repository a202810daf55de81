use Rattle.std.proofs.Common.{◌∙◌, arith}
use Rattle.std.proofs.lemmas.Result.{IfOk-weaker}
use Rattle.chl_lines.proofs.AnswerParts.{part_is}
use Rattle.chl_lines.proofs.printed.part_lines.Goals as goal

pub returns : goal.returns
returns c =
    IfOk-weaker c.lines_in_order.result _ _
    (λ text is. is ∙ part_is c.args.pairs.now c.args.answers.now c.args.part _ c.requires.same (omega (arith, c.min.ensures)))
    c.lines_in_order.ensures
