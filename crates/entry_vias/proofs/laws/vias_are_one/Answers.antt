use Rattle.walk_laws.specs.Joined.{Joined}
use Rattle.entry_vias.proofs.OneList.{AreVias-one}
use Rattle.entry_vias.proofs.laws.vias_are_one.Goals as goal

pub returns : goal.returns
returns c = λ edges rows vias others. AreVias-one (Joined edges) rows vias others
