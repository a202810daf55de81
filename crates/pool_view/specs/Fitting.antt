-- What the entries of a pool keep: each may stand in the row of its node.
use Rattle.std.specs.Prelude.{◌≡◌, ℕ, ◌^◌, ◌<◌, List, [], Option, Some, None, length}
use Rattle.walk_laws.specs.declared.entry.Entry.{Entry}
use Rattle.walk_laws.specs.declared.graph.Edge.{Edge}
use Rattle.walk_laws.specs.Joined.{Joined}
use Rattle.walk_laws.specs.Labelling.{EntryFits}
use Rattle.label_pool.specs.Seats.{PoolId}

-- the edges of a graph, and its nodes by falling rank
pub record Fitting : Type 0 where
  pub edges : List Edge
  pub order : List ℕ

-- the entry may stand in the row of the node v
abbrev pub MayStand : Fitting → ℕ → Entry → Type 0
MayStand of v e = EntryFits (Joined of.edges) of.order v e

abbrev pub edges_of : Option Fitting → List Edge
edges_of None = []
edges_of (Some of) = of.edges

abbrev pub order_of : Option Fitting → List ℕ
order_of None = []
order_of (Some of) = of.order

-- the pool is of the nodes of a graph under a ranking, and its entries may stand in their rows
pub record IsFittingPool (pool : PoolId Fitting) : Type 0 where
  pub of : Fitting
  pub fact : pool.fact ≡ Some of
  pub size : length of.order ≡ pool.n
  pub cells : pool.cells < 2 ^ 32
