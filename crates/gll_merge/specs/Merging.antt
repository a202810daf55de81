-- What is merged in a shard of the table.
use Rattle.std.specs.Prelude.{◌≡◌, ℕ, ◌+◌, ◌<◌, ◌≤◌, ◌==◌, ◌&&◌, Bool, true, List, [], ◌∷◌, Option, None, Some, Result, All, Contains, get_or, is_some, length, nat_lt, not, slice_get, slice_set, if◌then◌else◌}
use Rattle.std.specs.List.{filter_map}
use Rattle.std.specs.declared.alloc.AllocError.{AllocError}
use Rattle.walk_laws.specs.declared.graph.Edge.{Edge}
use Rattle.walk_laws.specs.declared.entry.Entry.{Entry}
use Rattle.hub_index.specs.Shards.{node_at, shard_at, shard_count, shard_size}
use Rattle.hub_index.specs.NodeEntries.{entries_of_node}
use Rattle.hub_index.specs.Views.{IsNode}
use Rattle.label_clean.specs.declared.runs.RunList.{RunList}
use Rattle.label_clean.specs.HubRows.{RowsFrom}
use Rattle.label_clean.specs.Joining.{JoinsRow, JoinsUnder}
use Rattle.label_clean.specs.RunLists.{HasItsRuns, all_entries}
use Rattle.gll_table.specs.Tables.{IsShardBelow}

-- a shard by itself
pub record OneShard : Type 0 where
  pub number : ℕ
  pub first : ℕ
  pub rows : List (List Entry)

-- what contracts see of a task: a shard, the position up to which it is to be the labelling, and the lists to be merged in it
pub record OneTask : Type 0 where
  pub shard : OneShard
  pub next : ℕ
  pub lists : List RunList

-- what contracts see of what becomes of it: the shard, unless memory ran out, and the lists
pub record OneMerged : Type 0 where
  pub shard : Result OneShard AllocError
  pub lists : List RunList

-- what contracts see of shards that are merged: the tasks that nobody has taken, the rows of each shard that is merged, the position up to which the table is to be the labelling, and how many workspaces there are
pub record MergingView : Type 0 where
  pub tasks : List (Option OneTask)
  pub places : List (Option (List (List Entry)))
  pub next : ℕ
  pub workspaces : ℕ

-- lists to be merged in a shard of the table, which is the labelling up to the first position, and is the labelling up to the next one then, by way of late rows of hubs
pub record IsMerge (edges : List Edge) (at : List ℕ) (shift number first next : ℕ) (lists : List RunList) (hubs : RowsFrom) : Type 0 where
  pub within : next ≤ length at
  pub first_is : hubs.first ≡ first
  pub size : hubs.first + length hubs.rows ≡ next
  pub runs : All HasItsRuns lists
  pub nodes : All (λ e. IsNode (shard_size shift (length at) number) e.node) (all_entries lists)
  pub from : All (λ e. hubs.first ≤ e.pos) (all_entries lists)
  pub below : All (λ e. e.pos < next) (all_entries lists)
  pub under : (v : ℕ) → IsNode (length at) v → JoinsUnder edges at hubs.first next hubs.rows v
  pub joins : (place : ℕ) → IsNode (shard_size shift (length at) number) place → JoinsRow edges at hubs.first next (node_at shift number place) (entries_of_node (all_entries lists) place)

-- there is a place for each shard of a table, and the rows that stand at one are those of its shard, up to the position c
pub record ArePlaced (edges : List Edge) (at : List ℕ) (shift c : ℕ) (places : List (Option (List (List Entry)))) : Type 0 where
  pub within : c ≤ length at
  pub count : length places ≡ shard_count shift (length at)
  pub below : (k : ℕ) (rows : List (List Entry)) → k < length places → get_or places k None ≡ Some rows → IsShardBelow edges at shift c k rows

-- there are rows at each place
unfoldable pub are_filled : List (Option (List (List Entry))) → Bool
are_filled [] = true
are_filled (place ∷ places) = is_some place && are_filled places

-- a shard that is up to the position c has its place, and nothing stands there yet
unfoldable pub has_place : ℕ → List (Option (List (List Entry))) → OneShard → Bool
has_place c places shard = (shard.first == c && nat_lt shard.number (length places)) && not (is_some (get_or places shard.number None))

-- the places with one more shard, if it has its place
unfoldable pub with_shard : ℕ → List (Option (List (List Entry))) → OneShard → List (Option (List (List Entry)))
with_shard c places shard = if has_place c places shard then slice_set places shard.number (Some shard.rows) else places

-- of many lists of lists, the list of each at a place
abbrev pub lists_at : List (List RunList) → ℕ → List RunList
lists_at parts number = filter_map (λ lists. slice_get lists number) parts

-- of a table up to the first position, the task for the shard of a number: what each worker put there is to be merged in it
abbrev pub task_of : ℕ → ℕ → List (List (List Entry)) → List (List RunList) → ℕ → OneTask
task_of first next shards parts number = record { shard = record { number = number; first = first; rows = shard_at shards number }; next = next; lists = lists_at parts number }

-- there is the task of each of the shards from a number on, and no other
pub record AreTasksFrom (from first next : ℕ) (shards : List (List (List Entry))) (parts : List (List RunList)) (tasks : List (Option OneTask)) : Type 0 where
  pub count : length tasks + from ≡ length shards
  pub each : (number : ℕ) → from ≤ number → number < length shards → Contains tasks (Some (task_of first next shards parts number))
