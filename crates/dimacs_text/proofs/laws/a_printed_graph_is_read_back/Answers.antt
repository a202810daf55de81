use Rattle.dimacs_text.proofs.PrintedRead.{graph_read}
use Rattle.dimacs_text.proofs.laws.a_printed_graph_is_read_back.Goals as goal

pub returns : goal.returns
returns c = graph_read
