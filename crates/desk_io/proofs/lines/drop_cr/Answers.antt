use Rattle.std.proofs.Common.{length, take, ap, ◌∙◌}
use Rattle.desk_io.specs.Lines.{without_cr}
use Rattle.desk_io.proofs.LineEnds.{without_cr-prefix}
use Rattle.desk_io.proofs.lines.drop_cr.Goals as goal

pub returns : goal.returns
returns c =
    c.truncate.ensures.items
    ∙ ap (λ l. take (length l) c.args.line.now.items) (c.strip_cr-len.ensures ∙ ap without_cr c.deref.ensures.value)
    ∙ without_cr-prefix c.args.line.now.items
