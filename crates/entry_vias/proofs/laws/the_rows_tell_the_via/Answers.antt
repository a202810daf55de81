use Rattle.entry_vias.proofs.Labelled.{rows_tell}
use Rattle.entry_vias.proofs.laws.the_rows_tell_the_via.Goals as goal

pub returns : goal.returns
returns c = λ edges at rows h v y e edge ranking chl. rows_tell edges at rows edge chl h v y e
