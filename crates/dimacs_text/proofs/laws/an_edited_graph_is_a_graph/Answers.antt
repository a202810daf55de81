use Rattle.dimacs_text.proofs.TextsAccepted.{edited_graph}
use Rattle.dimacs_text.proofs.laws.an_edited_graph_is_a_graph.Goals as goal

pub returns : goal.returns
returns c = edited_graph
