use Rattle.std.proofs.Common.{Ok, ap, sym, ◌∙◌}
use Rattle.dimacs_text.proofs.PairFacts.{pairs_back}
use Rattle.dimacs_text.proofs.pairs_words.PairsWordsCountedText.value.Goals as goal

pub returns-clause-ok : goal.returns-clause-ok
returns-clause-ok c = ap Ok (pairs_back c.args.items.items ∙ sym c.new.ensures)
