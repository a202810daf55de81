use Rattle.hub_query.proofs.LabelledWalks.{path_tells}
use Rattle.hub_query.proofs.laws.the_path_is_the_walk.Goals as goal

pub returns : goal.returns
returns c = λ graph index u v told is size well chl. path_tells graph index is size well chl u v told
