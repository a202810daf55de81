use Rattle.std.proofs.Common.{◌≡◌, length}
use Rattle.text_lines.specs.Words.{words_of}
use Rattle.dimacs_text.specs.Counted.{after_words}
use Rattle.dimacs_text.proofs.numbers.strip_words.Given as goal

-- the words so far are equal
abbrev pub invariant-loop-word : goal.invariant-loop-word
invariant-loop-word l =
    after_words (words_of l.wanted) (words_of l.rest) ≡ after_words (words_of l.prefix) (words_of l.line)

abbrev pub decreases-loop-word : goal.decreases-loop-word
decreases-loop-word l = length (words_of l.wanted)
