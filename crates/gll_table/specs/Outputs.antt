-- What trees of some roots put, by the labelling up to a position alone, whoever's table they grew over.
use Rattle.std.specs.Prelude.{◌≡◌, ℕ, ◌≤◌, List, All, Contains, flat_map, length, map, nat_eq}
use Rattle.std.specs.List.{IsDistinct}
use Rattle.walk_laws.specs.declared.graph.Edge.{Edge}
use Rattle.walk_laws.specs.declared.entry.Entry.{Entry}
use Rattle.walk_laws.specs.Joined.{Joined}
use Rattle.walk_laws.specs.Labelling.{EntryFits, IsHubEntry}
use Rattle.hub_index.specs.declared.node_entry.NodeEntry.{NodeEntry}
use Rattle.hub_index.specs.Shards.{shard_count}
use Rattle.hub_index.specs.NodeEntries.{entries_of_node}
use Rattle.hub_index.specs.Views.{IsNode}
use Rattle.label_clean.specs.declared.hub_rows.HubEntry.{HubEntry}
use Rattle.label_clean.specs.declared.runs.RunList.{RunList}
use Rattle.label_clean.specs.Joining.{IsCoveredBelow}
use Rattle.gll_table.specs.Partition.{AreParts, hub_entries}

-- the entries, in any order, are what the trees of these roots put at v: such as may stand in its row, at most one for each root and none for another, and each root that is a hub of v
pub record IsPutBy (edges : List Edge) (at roots : List ℕ) (v : ℕ) (entries : List Entry) : Type 0 where
  pub fit : All (EntryFits (Joined edges) at v) entries
  pub once : IsDistinct nat_eq (map (λ e. e.pos) entries)
  pub of_roots : All (λ e. Contains roots e.pos) entries
  pub hubs : (e : Entry) → IsHubEntry (Joined edges) at v e → Contains roots e.pos → Contains entries e

-- the list is what the trees of these roots put, over the labelling up to a position, which covers none of what is of that position or later
pub record HavePutOver (edges : List Edge) (at : List ℕ) (first : ℕ) (roots : List ℕ) (list : List NodeEntry) : Type 0 where
  pub nodes : All (λ e. IsNode (length at) e.node) list
  pub put : (v : ℕ) → IsNode (length at) v → IsPutBy edges at roots v (entries_of_node list v)
  pub apart : (v : ℕ) → IsNode (length at) v → All (λ e. first ≤ e.pos → ¬ IsCoveredBelow edges at first v e) (entries_of_node list v)

-- what a worker hands in, and of which positions it is said
pub record Output : Type 0 where
  pub first : ℕ
  pub far : ℕ
  pub roots : List ℕ
  pub list : List NodeEntry
  pub parts : List RunList
  pub hubs : List HubEntry

-- such a list, its parts for the shards, and what of it stands at nodes with positions below another one
pub record IsOutput (edges : List Edge) (at : List ℕ) (shift : ℕ) (output : Output) : Type 0 where
  pub put : HavePutOver edges at output.first output.roots output.list
  pub are_parts : AreParts shift (shard_count shift (length at)) output.list output.parts
  pub are_hubs : output.hubs ≡ hub_entries at output.far output.list

-- the roots of all workers, and what all put
abbrev pub all_roots : List Output → List ℕ
all_roots outputs = flat_map (λ o. o.roots) outputs

abbrev pub all_put : List Output → List NodeEntry
all_put outputs = flat_map (λ o. o.list) outputs
