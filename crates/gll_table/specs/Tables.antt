-- The global table in shards: the labelling up to a position.
use Rattle.std.specs.Prelude.{◌≡◌, ℕ, ◌<◌, ◌≤◌, List, length}
use Rattle.walk_laws.specs.declared.graph.Edge.{Edge}
use Rattle.walk_laws.specs.declared.entry.Entry.{Entry}
use Rattle.walk_laws.specs.Labelling.{label_row}
use Rattle.hub_index.specs.Shards.{AreShards, node_at, shard_at, shard_count, shard_size}
use Rattle.hub_index.specs.Views.{IsNode}
use Rattle.label_clean.specs.Below.{IsRowBelow}

-- the rows of a shard hold exactly the hubs of its nodes with a position below c, by rising position
pub record IsShardBelow (edges : List Edge) (at : List ℕ) (shift c number : ℕ) (rows : List (List Entry)) : Type 0 where
  pub there : number < shard_count shift (length at)
  pub size : length rows ≡ shard_size shift (length at) number
  pub each : (place : ℕ) → IsNode (length rows) place → IsRowBelow edges at c (node_at shift number place) (label_row rows place)

-- the shards of all nodes, each up to the position c
pub record AreShardsBelow (edges : List Edge) (at : List ℕ) (shift c : ℕ) (shards : List (List (List Entry))) : Type 0 where
  pub within : c ≤ length at
  pub are : AreShards shift (length at) shards
  pub below : (number : ℕ) → number < shard_count shift (length at) → IsShardBelow edges at shift c number (shard_at shards number)

-- a table in shards: the position up to which it is the labelling, and the rows of each shard
pub record ShardedTable : Type 0 where
  pub first : ℕ
  pub shards : List (List (List Entry))
