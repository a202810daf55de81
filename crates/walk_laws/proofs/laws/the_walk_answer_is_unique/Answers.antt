use Rattle.walk_laws.specs.Joined.{Joined}
use Rattle.walk_laws.proofs.AnswersOfPairs.{IsWalkAnswer-unique}
use Rattle.walk_laws.proofs.laws.the_walk_answer_is_unique.Goals as goal

pub returns : goal.returns
returns c edges = IsWalkAnswer-unique (Joined edges)
