use Rattle.walk_laws.proofs.JoinedDecisions.{IsWalkAnswer-exists}
use Rattle.walk_laws.proofs.laws.each_pair_has_a_walk_answer.Goals as goal

pub returns : goal.returns
returns c edges u v weights = IsWalkAnswer-exists edges weights u v
