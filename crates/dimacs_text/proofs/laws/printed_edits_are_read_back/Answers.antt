use Rattle.dimacs_text.proofs.PrintedRead.{edits_read}
use Rattle.dimacs_text.proofs.laws.printed_edits_are_read_back.Goals as goal

pub returns : goal.returns
returns c = edits_read
