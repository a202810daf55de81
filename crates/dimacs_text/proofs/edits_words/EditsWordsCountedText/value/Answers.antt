use Rattle.std.proofs.Common.{Ok, ap, sym, ◌∙◌}
use Rattle.dimacs_text.proofs.ArcFacts.{edges_back}
use Rattle.dimacs_text.proofs.edits_words.EditsWordsCountedText.value.Goals as goal

pub returns-clause-ok : goal.returns-clause-ok
returns-clause-ok c = ap Ok (edges_back c.args.items.items ∙ sym c.new.ensures)
