use Rattle.std.proofs.Common.{◌^◌, ◌<◌, sym, ◌∙◌, arith}
use Rattle.dimacs_text.proofs.PairFacts.{pair_taken}
use Rattle.dimacs_text.proofs.pairs_words.PairsWordsCountedText.item.Goals as goal

pub returns : goal.returns
returns c = λ values is.
    let low : c.args.self.now.n < 2 ^ 64 = omega arith in
    pair_taken c.args.self.now.n c.args._counts.now values c.args.numbers.now low is c.requires.numbers
    (sym c.is_outside_of.ensures ∙ c.if-is_outside_of.false)
    (sym c.is_outside_of-else-is_outside_of.ensures ∙ c.if-is_outside_of-2.false)
