-- Rows of the nodes of a graph under a ranking, which one thread gathers.
use Rattle.std.specs.Prelude.{◌≡◌, ℕ, ◌≤◌, List, All, length}
use Rattle.walk_laws.specs.declared.graph.Edge.{Edge}
use Rattle.walk_laws.specs.declared.entry.Entry.{Entry}
use Rattle.walk_laws.specs.Joined.{Joined}
use Rattle.walk_laws.specs.Labelling.{EntryFits, label_row}

-- the edges of the graph, the nodes by falling rank, and the rows, node 1 first
pub record GatheredRows : Type 0 where
  pub edges : List Edge
  pub order : List ℕ
  pub rows : List (List Entry)

-- a row for each node, whose entries may stand in it
pub record IsGathered (edges : List Edge) (order : List ℕ) (rows : List (List Entry)) : Type 0 where
  pub size : length rows ≡ length order
  pub fit : (v : ℕ) → 1 ≤ v → v ≤ length order → All (EntryFits (Joined edges) order v) (label_row rows v)
