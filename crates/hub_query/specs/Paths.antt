-- The walk of a pair by the rows of an index, whatever the index is: at each node it goes on to the least neighbour by which the rows say that the way is no longer (pruned landmark labelling, SIGMOD 2013).
use Rattle.std.specs.Prelude.{◌≡◌, ◌≢◌, ℕ, ◌+◌, ◌-◌, ◌≤◌, List, [], ◌∷◌, Some, None, length}
use Rattle.walk_laws.specs.declared.graph.Arc.{Arc}
use Rattle.walk_laws.specs.Graph.{WeightedGraph}
use Rattle.walk_laws.specs.Joined.{Joined}
use Rattle.walk_laws.specs.Walk.{Step, IsWalk, walk_length, nodes_of}
use Rattle.walk_laws.specs.Answer.{IsWalkAnswer}
use Rattle.walk_laws.specs.Meet.{IsMeet}
use Rattle.hub_index.specs.HubIndex.{HubIndex}
use Rattle.hub_query.specs.declared.path_answer.Path.{Path}
use Rattle.hub_query.specs.declared.path_answer.Path.TheVariants.{Sizes, Unreachable, Walk, Stuck}

-- the rows of x and v say that they are d apart
abbrev pub AreApartBy : HubIndex → ℕ → ℕ → ℕ → Type 0
AreApartBy index x v d = (hub : ℕ) × IsMeet index.order index.rows x v (Some (d, hub))

-- an arc leads from x to y, and its weight and what the rows say of y and v add up to d
pub record IsOnward (J : ℕ → ℕ → ℕ → Type 0) (index : HubIndex) (v x d y : ℕ) : Type 0 where
  pub weight : ℕ
  pub rest : ℕ
  pub arc : J x y weight
  pub meet : AreApartBy index y v rest
  pub adds : weight + rest ≡ d

-- and y is the least such node
pub record IsFirstOnward (J : ℕ → ℕ → ℕ → Type 0) (index : HubIndex) (v x d y : ℕ) : Type 0 where
  pub onward : IsOnward J index v x d y
  pub least : (z : ℕ) → IsOnward J index v x d z → y ≤ z

-- the arc leads from x onward, to the least such node
pub record LeadsOn (J : ℕ → ℕ → ℕ → Type 0) (index : HubIndex) (v x d : ℕ) (a : Arc) : Type 0 where
  pub light : a.w ≤ d
  pub arc : J x a.to a.w
  pub meet : AreApartBy index a.to v (d - a.w)
  pub least : (z : ℕ) → IsOnward J index v x d z → a.to ≤ z

-- from x, which the rows put at d from v, one comes so by these nodes to z, which they put at e
abbrev pub ComesTo : (ℕ → ℕ → ℕ → Type 0) → HubIndex → ℕ → ℕ → ℕ → List ℕ → ℕ → ℕ → Type 0
ComesTo J index v x d [] z e = (x ≡ z) × (d ≡ e)
ComesTo J index v x d (y ∷ nodes) z e = (x ≢ v) × (step : IsFirstOnward J index v x d y) × ComesTo J index v y step.onward.rest nodes z e

-- a walk of the graph from u to v that passes these nodes, whose length is what the rows say of u and v
pub record IsRowWalk (J : ℕ → ℕ → ℕ → Type 0) (index : HubIndex) (u v d : ℕ) (nodes : List ℕ) : Type 0 where
  pub meet : AreApartBy index u v d
  pub steps : List Step
  pub walk : IsWalk J u steps v
  pub long : walk_length steps ≡ d
  pub passes : nodes_of u steps ≡ nodes
  pub others : List ℕ
  pub from_u : nodes ≡ u ∷ others
  pub each_least : ComesTo J index v u d others v 0

-- one comes from u to the node x other than v, and no node is onward from there
pub record IsStuckAt (J : ℕ → ℕ → ℕ → Type 0) (index : HubIndex) (u v x : ℕ) : Type 0 where
  pub far : ℕ
  pub meet : AreApartBy index u v far
  pub nodes : List ℕ
  pub rest : ℕ
  pub comes : ComesTo J index v u far nodes x rest
  pub other : x ≢ v
  pub none : (y : ℕ) → ¬ IsOnward J index v x rest y

-- what is answered where the walk of u and v is asked for
abbrev pub IsPathOf : WeightedGraph → HubIndex → ℕ → ℕ → Path → Type 0
IsPathOf graph index u v (Sizes nodes rows) = (nodes ≡ graph.n) × (rows ≡ length index.order) × (nodes ≢ rows)
IsPathOf graph index u v Unreachable = (length index.order ≡ graph.n) × IsMeet index.order index.rows u v None
IsPathOf graph index u v (Walk long nodes) = (length index.order ≡ graph.n) × IsRowWalk (Joined graph.edges) index u v long nodes
IsPathOf graph index u v (Stuck at to) = (length index.order ≡ graph.n) × (to ≡ v) × IsStuckAt (Joined graph.edges) index u v at

-- the answer is the first shortest walk, or that there is none; the sizes may differ
abbrev pub TellsTheWalk : (ℕ → ℕ → ℕ → Type 0) → ℕ → ℕ → Path → Type 0
TellsTheWalk J u v (Sizes nodes rows) = Unit {0}
TellsTheWalk J u v Unreachable = IsWalkAnswer J u v None
TellsTheWalk J u v (Walk long nodes) = IsWalkAnswer J u v (Some (long, nodes))
TellsTheWalk J u v (Stuck at to) = ⊥
