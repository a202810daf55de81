-- Entries with their nodes, of which the first take less room.
use Rattle.std.specs.Prelude.{◌≡◌, List, ◌++◌, map}
use Rattle.hub_index.specs.declared.node_entry.NodeEntry.{NodeEntry}
use Rattle.entry_sinks.specs.declared.range_entries.CompactNodeEntry.{CompactNodeEntry}

-- the same entry in full room
abbrev pub widened : CompactNodeEntry → NodeEntry
widened e = record { node = e.node; pos = e.pos; dist = e.dist }

-- the entries in less room, and after them those in full room
abbrev pub entries_of_parts : List CompactNodeEntry → List NodeEntry → List NodeEntry
entries_of_parts compact full = map (λ e. widened e) compact ++ full

-- the entries are those in less room, and after them those in full room
abbrev pub IsInParts : List NodeEntry → List CompactNodeEntry → List NodeEntry → Type 0
IsInParts entries compact full = entries ≡ entries_of_parts compact full
