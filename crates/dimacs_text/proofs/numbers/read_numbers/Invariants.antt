use Rattle.std.proofs.Common.{take}
use Rattle.text_lines.specs.Words.{words_of}
use Rattle.dimacs_text.proofs.NumbersRead.{Left}
use Rattle.dimacs_text.proofs.numbers.read_numbers.Given as goal

-- the words so far are read into the first places
abbrev pub invariant-loop-place : goal.invariant-loop-place
invariant-loop-place l = Left (words_of l.line) (words_of l.rest) l.place l.all (take l.place l.numbers)
