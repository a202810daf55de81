-- How the nodes 1..n are cut in shards of 2 ^ shift nodes, and the rows that lie in these.
use Rattle.std.specs.Prelude.{◌≡◌, ℕ, ◌+◌, ◌-◌, ◌*◌, ◌/◌, ◌%◌, ◌^◌, ◌<◌, ◌≤◌, List, [], length, map, min, slice_index_or}
use Rattle.std.specs.List.{range_with_len}
use Rattle.walk_laws.specs.declared.entry.Entry.{Entry}
use Rattle.walk_laws.specs.Labelling.{label_row}

-- the number, from 0, of the shard in which the node v lies
abbrev pub shard_number : ℕ → ℕ → ℕ
shard_number shift v = (v - 1) / 2 ^ shift

-- its place there, from 1
abbrev pub shard_place : ℕ → ℕ → ℕ
shard_place shift v = (v - 1) % 2 ^ shift + 1

-- the node at a place, from 1, of a shard
abbrev pub node_at : ℕ → ℕ → ℕ → ℕ
node_at shift number place = number * 2 ^ shift + place

-- how many of the nodes 1..n lie in a shard
abbrev pub shard_size : ℕ → ℕ → ℕ → ℕ
shard_size shift n number = min (n - number * 2 ^ shift) (2 ^ shift)

-- how many shards the nodes 1..n are cut in
abbrev pub shard_count : ℕ → ℕ → ℕ
shard_count shift n = (n + 2 ^ shift - 1) / 2 ^ shift

-- the rows of a shard
abbrev pub shard_at : List (List (List Entry)) → ℕ → List (List Entry)
shard_at shards number = slice_index_or shards number []

-- the row of the node v, which lies in one of the shards
abbrev pub sharded_row : ℕ → List (List (List Entry)) → ℕ → List Entry
sharded_row shift shards v = label_row (shard_at shards (shard_number shift v)) (shard_place shift v)

-- the rows of the nodes 1..n, which lie in the shards, node 1 first
abbrev pub sharded_rows : ℕ → ℕ → List (List (List Entry)) → List (List Entry)
sharded_rows shift n shards = map (sharded_row shift shards) (range_with_len 1 n)

-- the rows of one shard of a table
abbrev pub shard_of : ℕ → ℕ → List (List Entry) → List (List Entry)
shard_of shift number rows = map (λ place. label_row rows (node_at shift number place)) (range_with_len 1 (shard_size shift (length rows) number))

-- there are as many shards as the nodes are cut in, and each has a row for each of its nodes
pub record AreShards (shift n : ℕ) (shards : List (List (List Entry))) : Type 0 where
  pub shift_is : shift ≤ 30
  pub count : length shards ≡ shard_count shift n
  pub sizes : (number : ℕ) → number < shard_count shift n → length (shard_at shards number) ≡ shard_size shift n number
