use Rattle.chl_answers.proofs.Decisions.{decides_once}
use Rattle.chl_answers.proofs.laws.the_files_decide_once.Goals as goal

pub returns : goal.returns
returns c = decides_once
