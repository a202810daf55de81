use Rattle.rank_table.proofs.DegreeRankings.{ranked_by_degree}
use Rattle.rank_table.proofs.laws.each_graph_is_ranked_by_degree.Goals as goal

pub returns : goal.returns
returns c = ranked_by_degree
