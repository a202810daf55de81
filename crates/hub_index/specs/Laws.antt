-- The law of rows. `laws` has a public function for it.
use Rattle.std.specs.Prelude.{◌≡◌, ℕ, List, length}
use Rattle.walk_laws.specs.declared.graph.Edge.{Edge}
use Rattle.walk_laws.specs.declared.entry.Entry.{Entry}
use Rattle.walk_laws.specs.Graph.{IsGraph}
use Rattle.walk_laws.specs.Joined.{Joined}
use Rattle.walk_laws.specs.Ranking.{IsRanking}
use Rattle.walk_laws.specs.Labelling.{IsChl}
use Rattle.walk_laws.specs.Overflow.{Overflows}
use Rattle.hub_index.specs.WellFormed.{IsWellFormed}

-- the canonical hub labelling of a graph under a ranking of its nodes is well formed where no hub is too far
abbrev pub TheLabellingIsWellFormed : Type 0
TheLabellingIsWellFormed = (n : ℕ) (edges : List Edge) (at : List ℕ) (rows : List (List Entry)) → IsGraph n edges → IsRanking at → length at ≡ n → IsChl (Joined edges) at rows → ¬ Overflows (Joined edges) at → IsWellFormed at rows
