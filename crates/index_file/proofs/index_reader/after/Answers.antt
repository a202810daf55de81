use Rattle.std.proofs.Common.{ap, ◌∙◌, inr}
use Rattle.index_file.specs.Judging.{fed}
use Rattle.index_file.specs.Cutting.{fed-err}
use Rattle.index_file.proofs.index_reader.after.Goals as goal

pub returns-in-Err-clause-gives : goal.returns-in-Err-clause-gives
returns-in-Err-clause-gives c = inr (ap (λ r. fed r c.args.piece.now) c.in-Err.is ∙ fed-err c.in-Err.fault c.args.piece.now)
