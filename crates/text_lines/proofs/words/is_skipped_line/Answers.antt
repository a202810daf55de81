use Rattle.std.proofs.Common.{◌<◌, length, ap, sym, ◌∙◌, arith}
use Rattle.std.proofs.lemmas.Grind.{common_steps}
use Rattle.text_lines.specs.Words.{is_skipped}
use Rattle.text_lines.proofs.WordsFound.{is_skipped-first}
use Rattle.text_lines.proofs.words.is_skipped_line.Goals as goal

pub returns-else-is_empty : goal.returns-else-is_empty
returns-else-is_empty c =
    let some : 0 < length c.skip_blanks-rest.result.now = grind (arith, common_steps) in
    sym (is_skipped-first c.skip_blanks-rest.result.now some (c.skip_blanks-rest.ensures.word some))
    ∙ ap is_skipped c.skip_blanks-rest.ensures.same
