use Rattle.chl_answers.proofs.BuiltUpgrades.{upgrades_build}
use Rattle.chl_answers.proofs.laws.an_upgrade_of_a_built_file_is_version_two.Goals as goal

pub returns : goal.returns
returns c = upgrades_build
