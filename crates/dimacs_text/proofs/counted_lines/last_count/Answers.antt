use Rattle.std.proofs.Common.{arith}
use Rattle.std.proofs.lemmas.Grind.{common_steps}
use Rattle.dimacs_text.proofs.CountsKept.{last_of-get}
use Rattle.dimacs_text.proofs.counted_lines.last_count.Goals as goal

pub returns : goal.returns
returns c = last_of-get c.args.counts.now _ (grind (arith, common_steps))
