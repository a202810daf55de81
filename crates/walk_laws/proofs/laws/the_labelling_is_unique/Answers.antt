use Rattle.walk_laws.specs.Joined.{Joined}
use Rattle.walk_laws.proofs.LabelRows.{IsChl-unique}
use Rattle.walk_laws.proofs.laws.the_labelling_is_unique.Goals as goal

pub returns : goal.returns
returns c edges = IsChl-unique (Joined edges)
