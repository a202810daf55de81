use Rattle.rank_table.proofs.DegreeRankings.{IsByDegree-unique}
use Rattle.rank_table.proofs.laws.the_ranking_by_degree_is_unique.Goals as goal

pub returns : goal.returns
returns c = IsByDegree-unique
