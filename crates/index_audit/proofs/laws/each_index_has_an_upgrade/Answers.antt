use Rattle.index_audit.proofs.OneUpgrade.{upgrade_exists}
use Rattle.index_audit.proofs.laws.each_index_has_an_upgrade.Goals as goal

pub returns : goal.returns
returns c = upgrade_exists
