use Rattle.dimacs_text.proofs.TextsAccepted.{edits_accepted}
use Rattle.dimacs_text.proofs.laws.an_edits_text_is_edges_of_nodes.Goals as goal

pub returns : goal.returns
returns c = edits_accepted
