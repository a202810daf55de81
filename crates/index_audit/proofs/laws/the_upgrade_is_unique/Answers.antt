use Rattle.index_audit.proofs.OneUpgrade.{upgrade_unique}
use Rattle.index_audit.proofs.laws.the_upgrade_is_unique.Goals as goal

pub returns : goal.returns
returns c = λ graph index answer other size. upgrade_unique graph index size answer other
