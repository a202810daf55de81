-- The laws of what two rows say of a pair. `laws` has a public function for each.
use Rattle.std.specs.Prelude.{◌≡◌, ℕ, ◌≤◌, List, Option, length}
use Rattle.walk_laws.specs.declared.entry.Entry.{Entry}
use Rattle.walk_laws.specs.Graph.{WeightedGraph, IsGraph}
use Rattle.walk_laws.specs.Joined.{Joined}
use Rattle.walk_laws.specs.Labelling.{IsChl}
use Rattle.walk_laws.specs.Meet.{IsMeet}
use Rattle.hub_index.specs.HubIndex.{HubIndex}
use Rattle.hub_index.specs.WellFormed.{IsWellFormed}
use Rattle.hub_query.specs.declared.path_answer.Path.{Path}
use Rattle.hub_query.specs.Paths.{IsPathOf, TellsTheWalk}

-- the rows of two nodes of an index say something of the pair
abbrev pub EachPairHasAMeet : Type 0
EachPairHasAMeet = (at : List ℕ) (rows : List (List Entry)) (u v : ℕ) → IsWellFormed at rows → 1 ≤ u → u ≤ length at → 1 ≤ v → v ≤ length at → (answer : Option (ℕ × ℕ)) × IsMeet at rows u v answer

-- and only one thing, whatever the rows are
abbrev pub TheMeetIsUnique : Type 0
TheMeetIsUnique = (at : List ℕ) (rows : List (List Entry)) (u v : ℕ) (answer other : Option (ℕ × ℕ)) → IsMeet at rows u v answer → IsMeet at rows u v other → answer ≡ other

-- the walk of each two nodes of an index is answered something, for every graph
abbrev pub EachPairHasAPath : Type 0
EachPairHasAPath = (graph : WeightedGraph) (index : HubIndex) (u v : ℕ) → IsGraph graph.n graph.edges → IsWellFormed index.order index.rows → 1 ≤ u → u ≤ length index.order → 1 ≤ v → v ≤ length index.order → (told : Path) × IsPathOf graph index u v told

-- and only one thing
abbrev pub ThePathIsUnique : Type 0
ThePathIsUnique = (graph : WeightedGraph) (index : HubIndex) (u v : ℕ) (told other : Path) → IsPathOf graph index u v told → IsPathOf graph index u v other → told ≡ other

-- of the canonical hub labelling it is the first shortest walk
abbrev pub ThePathIsTheWalk : Type 0
ThePathIsTheWalk = (graph : WeightedGraph) (index : HubIndex) (u v : ℕ) (told : Path) → IsGraph graph.n graph.edges → length index.order ≡ graph.n → IsWellFormed index.order index.rows → IsChl (Joined graph.edges) index.order index.rows → 1 ≤ u → u ≤ length index.order → 1 ≤ v → v ≤ length index.order → IsPathOf graph index u v told → TellsTheWalk (Joined graph.edges) u v told
