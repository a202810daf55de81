-- Entries as workers put them, in any order, and the rows that are gathered of them.
use Rattle.std.specs.Prelude.{◌≡◌, ◌↔◌, ◌≢◌, ℕ, ◌+◌, ◌-◌, ◌*◌, ◌/◌, ◌≤◌, List, [], ◌∷◌, ◌++◌, AllPairs, Contains, map, length, slice_index_or}
use Rattle.std.specs.Prelude.{Option, Some, None}
use Rattle.walk_laws.specs.declared.graph.Edge.{Edge}
use Rattle.walk_laws.specs.declared.entry.Entry.{Entry}
use Rattle.walk_laws.specs.Joined.{Joined}
use Rattle.walk_laws.specs.Labelling.{IsHubEntry, label_row}
use Rattle.hub_index.specs.declared.node_entry.NodeEntry.{NodeEntry}
use Rattle.hub_index.specs.NodeEntries.{entries_of_node, IsGatheredRow}

-- a number of nodes, which are 1..n, and the entries that were put at the nodes of each range
pub record Sunk : Type 0 where
  pub n : ℕ
  pub ranges : List (List NodeEntry)

-- how many nodes a range has
abbrev pub range_width : ℕ → ℕ
range_width n = n / 64 + 64

-- the range in which a node lies
abbrev pub range_of : ℕ → ℕ → ℕ
range_of n v = (v - 1) / range_width n

-- the entries of a range
abbrev pub range_at : Sunk → ℕ → List NodeEntry
range_at sink r = slice_index_or sink.ranges r []

-- the entries that were put at a node, in order
abbrev pub sunk_at : Sunk → ℕ → List Entry
sunk_at sink v = entries_of_node (range_at sink (range_of sink.n v)) v

-- what several workers put at a node
abbrev pub all_sunk : List Sunk → ℕ → List Entry
all_sunk [] v = []
all_sunk (sink ∷ sinks) v = sunk_at sink v ++ all_sunk sinks v

-- what each of several workers put at the nodes of a range
abbrev pub ranges_at : List Sunk → ℕ → List (List NodeEntry)
ranges_at sinks r = map (λ sink. range_at sink r) sinks

-- the entries of one node among those of each list
abbrev pub all_of_node : List (List NodeEntry) → ℕ → List Entry
all_of_node [] v = []
all_of_node (entries ∷ lists) v = entries_of_node entries v ++ all_of_node lists v

-- how many rows the parts have that were made
abbrev pub rows_in : List (Option (List (List Entry))) → ℕ
rows_in [] = 0
rows_in (Some part ∷ parts) = length part + rows_in parts
rows_in (None ∷ parts) = rows_in parts

-- all parts were made, and the rows are theirs, one part after another
abbrev pub AreJoined : List (Option (List (List Entry))) → List (List Entry) → Type 0
AreJoined [] rows = rows ≡ []
AreJoined (Some part ∷ parts) rows = (rest : List (List Entry)) × (rows ≡ part ++ rest) × AreJoined parts rest
AreJoined (None ∷ parts) rows = ⊥

-- the rows are those of the nodes in a range, of entries in several lists
abbrev pub IsRangeOf : List (List NodeEntry) → ℕ → ℕ → List (List Entry) → Type 0
IsRangeOf lists n r rows = (v : ℕ) → 1 ≤ v → v ≤ length rows → IsGatheredRow (all_of_node lists (r * range_width n + v)) (label_row rows v)

-- the entries of each node, in any order, are those of its hubs at the positions of a set, none twice
pub record HoldsPart (edges : List Edge) (at : List ℕ) (InPart : ℕ → Type 0) (entries : ℕ → List Entry) : Type 0 where
  pub once : (v : ℕ) → 1 ≤ v → v ≤ length at → AllPairs (λ x y. x ≢ y) (map (λ e. e.pos) (entries v))
  pub each : (v : ℕ) → 1 ≤ v → v ≤ length at → (e : Entry) → Contains (entries v) e ↔ (IsHubEntry (Joined edges) at v e × InPart e.pos)
