-- The laws of rankings by degree. `laws` has a public function for each.
use Rattle.std.specs.Prelude.{◌≡◌, ℕ, List}
use Rattle.walk_laws.specs.Graph.{WeightedGraph}
use Rattle.rank_table.specs.ByDegree.{IsByDegree}

-- each graph has a ranking by degree
abbrev pub EachGraphIsRankedByDegree : Type 0
EachGraphIsRankedByDegree = (graph : WeightedGraph) → (at : List ℕ) × IsByDegree graph at

-- and only one
abbrev pub RankingsByDegreeAreUnique : Type 0
RankingsByDegreeAreUnique = (graph : WeightedGraph) (at others : List ℕ) → IsByDegree graph at → IsByDegree graph others → at ≡ others
