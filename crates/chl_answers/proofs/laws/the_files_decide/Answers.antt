use Rattle.chl_answers.proofs.Decisions.{decides_always}
use Rattle.chl_answers.proofs.laws.the_files_decide.Goals as goal

pub returns : goal.returns
returns c = decides_always
