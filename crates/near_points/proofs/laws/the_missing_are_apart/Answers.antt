use Rattle.near_points.proofs.NearestPoints.{missing_apart}
use Rattle.near_points.proofs.laws.the_missing_are_apart.Goals as goal

pub returns : goal.returns
returns c = λ edges at rows points source k v hits weights ranking chl nodes from_one up_to_n nearest fewer point. missing_apart edges at rows points source weights ranking chl nodes from_one up_to_n k v hits nearest fewer point
