use Rattle.chl_answers.proofs.BuiltOpenings.{opens_build}
use Rattle.chl_answers.proofs.laws.an_opening_is_a_build.Goals as goal

pub returns : goal.returns
returns c = opens_build
