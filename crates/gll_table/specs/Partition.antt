-- What a worker put, parts to the shards of a table, and what of it stands at roots.
use Rattle.std.specs.Prelude.{◌≡◌, ℕ, ◌<◌, ◌==◌, ◌&&◌, List, Some, All, filter, length, map, nat_lt, slice_get}
use Rattle.walk_laws.specs.declared.entry.Entry.{Entry}
use Rattle.walk_laws.specs.Ranking.{position_of}
use Rattle.hub_index.specs.declared.node_entry.NodeEntry.{NodeEntry}
use Rattle.hub_index.specs.NodeEntries.{entries_of_node, entry_of}
use Rattle.hub_index.specs.Shards.{shard_number, shard_place}
use Rattle.label_clean.specs.declared.hub_rows.HubEntry.{HubEntry}
use Rattle.label_clean.specs.declared.runs.RunList.{RunList}
use Rattle.label_clean.specs.HubRows.{entries_of_hub}
use Rattle.label_clean.specs.RunLists.{HasItsRuns, entries_at}

-- an entry, with its place in its shard for its node
abbrev pub in_shard : ℕ → NodeEntry → NodeEntry
in_shard shift e = record { node = shard_place shift e.node; pos = e.pos; dist = e.dist }

-- the entries of one shard
abbrev pub shard_entries : ℕ → ℕ → List NodeEntry → List NodeEntry
shard_entries shift number entries = map (λ e. in_shard shift e) (filter (λ e. shard_number shift e.node == number) entries)

-- there is a list for each of so many shards, which has the shard's entries, in order, and its runs
pub record AreParts (shift count : ℕ) (entries : List NodeEntry) (parts : List RunList) : Type 0 where
  pub size : length parts ≡ count
  pub each : (number : ℕ) → number < count → entries_at parts number ≡ shard_entries shift number entries
  pub runs : All HasItsRuns parts

-- the entries at nodes with a position below another one, of hubs that rank above the node
abbrev pub hub_entry : List ℕ → NodeEntry → HubEntry
hub_entry at e = record { of = position_of at e.node; entry = entry_of e }

abbrev pub hub_entries : List ℕ → ℕ → List NodeEntry → List HubEntry
hub_entries at below entries = map (λ e. hub_entry at e) (filter (λ e. nat_lt (position_of at e.node) below && nat_lt e.pos (position_of at e.node)) entries)

-- the entries with positions below q
abbrev pub entries_below : ℕ → List Entry → List Entry
entries_below q entries = filter (λ e. nat_lt e.pos q) entries

-- what a list has at the nodes with positions below the next root's, of hubs that rank above them, is what was listed for roots
abbrev pub ListsHubs : List ℕ → ℕ → List NodeEntry → List HubEntry → Type 0
ListsHubs at next list hubs = (q h : ℕ) → q < next → slice_get at q ≡ Some h → entries_of_hub hubs q ≡ entries_below q (entries_of_node list h)
