-- Entries in half the room, the entries that they are, and the rows that begin with them.
use Rattle.std.specs.Prelude.{List, [], ◌∷◌, ◌++◌, map}
use Rattle.std.specs.List.{zip}
use Rattle.walk_laws.specs.declared.entry.Entry.{Entry}
use Rattle.hub_index.specs.declared.compact_row.CompactEntry.{CompactEntry}

-- the same entry in full room
abbrev pub widened : CompactEntry → Entry
widened e = record { pos = e.pos; dist = e.dist }

-- the row whose first entries take half the room, and whose others take all of it
abbrev pub row_of_parts : List CompactEntry → List Entry → List Entry
row_of_parts compact full = map (λ e. widened e) compact ++ full

-- the row of each node
abbrev pub rows_of_parts : List (List CompactEntry) → List (List Entry) → List (List Entry)
rows_of_parts compact full = map (λ parts. row_of_parts parts.0 parts.1) (zip compact full)

-- the row of each node that has a second part, whether it has a first one or not
abbrev pub rows_after : List (List CompactEntry) → List (List Entry) → List (List Entry)
rows_after [] [] = []
rows_after [] (row ∷ full) = row ∷ rows_after [] full
rows_after (part ∷ compact) [] = []
rows_after (part ∷ compact) (row ∷ full) = row_of_parts part row ∷ rows_after compact full
