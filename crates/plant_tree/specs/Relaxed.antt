-- What the arcs of a settled node change in the tree: the nodes at their ends are offered the walks along them.
use Rattle.std.specs.Prelude.{ℕ, ◌+◌, List, [], ◌∷◌, min}
use Rattle.walk_laws.specs.declared.graph.Arc.{Arc}
use Rattle.walk_laws.specs.Ranking.{position_of}
use Rattle.frontier.specs.Reaches.{with_offer}
use Rattle.frontier.specs.declared.reach.Found.{Found}
use Rattle.frontier.specs.declared.reach.Reach.{Reach}
use Rattle.plant_tree.specs.declared.highest.Highest.{Highest}

-- of two positions the smaller, which ranks higher
abbrev pub higher : Highest → Highest → Highest
higher a b = record { position = min a.position b.position }

-- the walk along an arc from a node of which this was found
abbrev pub offer_of : List ℕ → Found Highest → Arc → Found Highest
offer_of at found a = record { dist = found.dist + a.w; carried = record { position = min found.carried.position (position_of at a.to) } }

-- all nodes after one arc, and after the arcs of a row
abbrev pub relaxed : List ℕ → Found Highest → Arc → List (Reach Highest) → List (Reach Highest)
relaxed at found a nodes = with_offer higher nodes a.to (offer_of at found a)

abbrev pub relaxed_all : List ℕ → Found Highest → List Arc → List (Reach Highest) → List (Reach Highest)
relaxed_all at found [] nodes = nodes
relaxed_all at found (a ∷ row) nodes = relaxed_all at found row (relaxed at found a nodes)
