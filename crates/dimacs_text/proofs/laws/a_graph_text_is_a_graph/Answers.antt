use Rattle.dimacs_text.proofs.TextsAccepted.{graph_accepted}
use Rattle.dimacs_text.proofs.laws.a_graph_text_is_a_graph.Goals as goal

pub returns : goal.returns
returns c = graph_accepted
