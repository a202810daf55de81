use Rattle.hub_query.proofs.PathsDecided.{path_exists}
use Rattle.hub_query.proofs.laws.each_pair_has_a_path.Goals as goal

pub returns : goal.returns
returns c = path_exists
