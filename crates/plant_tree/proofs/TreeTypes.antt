-- What a shortest-path tree has found of its nodes: their distances, and the highest-ranked nodes on their shortest walks.
use Rattle.frontier.specs.declared.reach.Found.{Found as FoundOf}
use Rattle.frontier.specs.declared.reach.Reach.{Reach as ReachOf}
use Rattle.plant_tree.specs.declared.highest.Highest.{Highest}

abbrev pub Found : Type 0
Found = FoundOf Highest

abbrev pub Reach : Type 0
Reach = ReachOf Highest
