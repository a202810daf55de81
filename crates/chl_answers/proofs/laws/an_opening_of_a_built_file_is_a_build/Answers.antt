use Rattle.chl_answers.proofs.BuiltOpenings.{built_opens}
use Rattle.chl_answers.proofs.laws.an_opening_of_a_built_file_is_a_build.Goals as goal

pub returns : goal.returns
returns c = built_opens
