use Rattle.entry_vias.proofs.Existing.{AreVias-exist}
use Rattle.entry_vias.proofs.laws.each_row_has_vias.Goals as goal

pub returns : goal.returns
returns c = λ edges rows. AreVias-exist edges rows
