use Rattle.dimacs_text.proofs.TextsAccepted.{pairs_accepted}
use Rattle.dimacs_text.proofs.laws.a_pairs_text_is_pairs_of_nodes.Goals as goal

pub returns : goal.returns
returns c = pairs_accepted
