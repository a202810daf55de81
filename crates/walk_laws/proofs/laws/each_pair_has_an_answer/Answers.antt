use Rattle.walk_laws.proofs.AnswersOfPairs.{IsAnswer-exists}
use Rattle.walk_laws.proofs.laws.each_pair_has_an_answer.Goals as goal

pub returns : goal.returns
returns c edges at u v weights ranking = IsAnswer-exists edges weights at ranking u v
