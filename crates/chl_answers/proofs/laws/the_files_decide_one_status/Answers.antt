use Rattle.chl_answers.proofs.Decisions.{decides_one_status}
use Rattle.chl_answers.proofs.laws.the_files_decide_one_status.Goals as goal

pub returns : goal.returns
returns c = decides_one_status
