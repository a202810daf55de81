use Rattle.std.proofs.Common.{map}
use Rattle.std.proofs.lemmas.Result.{IfOk-weaker}
use Rattle.std.proofs.lemmas.Slice.Zip.{AllZip-long}
use Rattle.hub_query.specs.Meant.{meant}
use Rattle.walk_laws.specs.Meet.{IsMeet}
use Rattle.chl_answers.proofs.PairAnswers.{answers_meant}
use Rattle.chl_outputs.proofs.commands.query.replies_text.Goals as goal

pub answer_lines-requires : goal.answer_lines-requires
answer_lines-requires g c = (c.type_bounds.sync-R, rw (c.list.ensures, c.list-2.ensures) (AllZip-long _ _ _ c.in_ok-answers.ensures))

pub returns : goal.returns
returns g c =
    let lines = rw (c.list.ensures, c.list-2.ensures) at c.answer_lines.ensures in
    IfOk-weaker c.answer_lines.result _ _ (λ text is. (
      map meant c.in_ok-answers.answers,
      answers_meant (IsMeet c.args.index.now.order c.args.index.now.rows) c.args.pairs.now c.in_ok-answers.answers c.in_ok-answers.ensures,
      is,
    )) lines
