use Rattle.near_points.proofs.NearestPoints.{distances_least}
use Rattle.near_points.proofs.laws.the_distances_are_least.Goals as goal

pub returns : goal.returns
returns c = λ edges at rows points source k hits weights ranking chl nodes from_one up_to_n nearest. distances_least edges at rows points source weights ranking chl nodes from_one up_to_n k hits nearest
