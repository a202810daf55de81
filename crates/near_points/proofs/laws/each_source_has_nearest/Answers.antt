use Rattle.near_points.proofs.NearestPoints.{nearest_exist}
use Rattle.near_points.proofs.laws.each_source_has_nearest.Goals as goal

pub returns : goal.returns
returns c = λ at rows points source k well nodes from_one up_to_n. nearest_exist at rows source points k well nodes from_one up_to_n
