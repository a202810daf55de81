use Rattle.walk_laws.specs.Joined.{Joined}
use Rattle.walk_laws.proofs.Positions.{position-lt}
use Rattle.walk_laws.proofs.Tops.{IsTop-unique}
use Rattle.walk_laws.proofs.laws.the_top_is_unique.Goals as goal

pub returns : goal.returns
returns c edges at u v x y ranking from_one up_to_n = IsTop-unique (Joined edges) at u v x y (position-lt at u ranking from_one up_to_n)
