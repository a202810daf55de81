use Rattle.std.proofs.Common.{length, ap, sym, ◌∙◌}
use Rattle.text_lines.specs.Words.{words_of}
use Rattle.dimacs_text.specs.Counted.{after_words, numbers_in}
use Rattle.dimacs_text.proofs.CountsKept.{counts_declared}
use Rattle.dimacs_text.proofs.counted_lines.counts_of.Goals as goal

pub returns-clause-counts : goal.returns-clause-counts
returns-clause-counts g c =
    let w = g.T.CountedText.wording c.args.text.now in
    let words = words_of c.args.words.now in
    let read = c.in_ok-numbers.ensures.numbers in
    let declared = counts_declared w words (words_of c.in-Some.after.now) read.0 c.in_ok-numbers.numbers.items
    (ap (λ fixed. after_words (words_of fixed) (words_of c.args.words.now)) (sym c.fixed.ensures) ∙ c.in-Some.ensures.found)
    (ap (λ limits. numbers_in (length limits) (words_of c.in-Some.after.now)) (sym c.limits-limits.ensures.value) ∙ read.1)
    read.2 c.limits-limits.ensures.small (c.in_ok-numbers.ensures.places ∙ ap length c.limits-limits.ensures.value) in
    rw declared (rw (c.limits-limits.ensures.value, c.deref.ensures.value) at c.counts_within.ensures.counts)
