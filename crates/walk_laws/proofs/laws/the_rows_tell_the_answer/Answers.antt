use Rattle.walk_laws.proofs.AnswersOfPairs.{IsMeet-IsAnswer}
use Rattle.walk_laws.proofs.laws.the_rows_tell_the_answer.Goals as goal

pub returns : goal.returns
returns c edges at rows u v answer weights ranking chl u_from u_to v_from v_to = IsMeet-IsAnswer edges weights at ranking u v u_from u_to v_from v_to rows chl answer
