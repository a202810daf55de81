use Rattle.entry_vias.proofs.Labelled.{via_there}
use Rattle.entry_vias.proofs.laws.the_via_is_there.Goals as goal

pub returns : goal.returns
returns c = λ edges at rows v e edge ranking chl. via_there edges at rows edge chl v e
