use Rattle.hub_query.proofs.PathsDecided.{path_unique}
use Rattle.hub_query.proofs.laws.the_path_is_unique.Goals as goal

pub returns : goal.returns
returns c = path_unique
