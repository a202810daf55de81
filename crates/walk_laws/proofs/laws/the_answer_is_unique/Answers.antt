use Rattle.walk_laws.specs.Joined.{Joined}
use Rattle.walk_laws.proofs.Positions.{position-lt}
use Rattle.walk_laws.proofs.AnswersOfPairs.{IsAnswer-unique}
use Rattle.walk_laws.proofs.laws.the_answer_is_unique.Goals as goal

pub returns : goal.returns
returns c edges at u v answer other ranking from_one up_to_n = IsAnswer-unique (Joined edges) at u v (position-lt at u ranking from_one up_to_n) answer other
