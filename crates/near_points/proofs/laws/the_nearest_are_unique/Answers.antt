use Rattle.near_points.specs.Nearest.{IsPointAway}
use Rattle.near_points.proofs.HitOrder.{AreFirst-unique}
use Rattle.near_points.proofs.laws.the_nearest_are_unique.Goals as goal

pub returns : goal.returns
returns c = λ at rows points source k hits others nearest other. AreFirst-unique (IsPointAway at rows points source) k hits others nearest other
