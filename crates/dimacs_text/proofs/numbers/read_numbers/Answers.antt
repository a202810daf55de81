use Rattle.std.proofs.Common.{Some, [], refl, arith}
use Rattle.dimacs_text.proofs.NumbersRead.{numbers_of-after}
use Rattle.text_lines.specs.Words.{words_of}
use Rattle.dimacs_text.proofs.numbers.read_numbers.Goals as goal

pub loop-place-init : goal.loop-place-init
loop-place-init c = record { so_far = Some []; comes = numbers_of-after (words_of c.args.line.now); count = omega arith; read = refl }
