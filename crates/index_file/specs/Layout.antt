-- The bytes of an index, version 1 of the format, and of an index with vias, version 2. Numbers are big-endian.
use Rattle.std.specs.Prelude.{ℕ, ◌-◌, List, ◌∷◌, ◌++◌, length, take, drop, zip, sum_by, flat_map, codes, Option, Some, None}
use Rattle.byteorder.specs.Endian.{big_bytes}
use Rattle.walk_laws.specs.declared.entry.Entry.{Entry}
use Rattle.walk_laws.specs.Labelling.{label_row}
use Rattle.entry_vias.specs.RowVias.{via_row}

-- the first seven bytes
abbrev pub letters : List ℕ
letters = codes "CHLABEL"

-- a node, or a position, or a count, or a via: four bytes
abbrev pub word : ℕ → List ℕ
word x = big_bytes 4 x

-- an entry: four bytes of its position, and eight of its distance
abbrev pub entry_bytes : Entry → List ℕ
entry_bytes e = word e.pos ++ big_bytes 8 e.dist

-- an entry with its via: those, and four bytes of the via
abbrev pub traced_entry_bytes : Entry × ℕ → List ℕ
traced_entry_bytes e = entry_bytes e.0 ++ word e.1

-- a row: the number of its entries, and the entries
abbrev pub row_bytes : List Entry → List ℕ
row_bytes row = word (length row) ++ flat_map entry_bytes row

-- a row with its vias: the number of its entries, and each entry with its via
abbrev pub traced_row_bytes : List Entry × List ℕ → List ℕ
traced_row_bytes row = word (length row.0) ++ flat_map traced_entry_bytes (zip row.0 row.1)

-- the letters, the version, and the number of nodes
abbrev pub head_bytes : ℕ → ℕ → List ℕ
head_bytes version n = letters ++ (version ∷ word n)

-- an index: the head, the nodes in ranked order, and the rows, node 1 first
abbrev pub index_bytes : List ℕ → List (List Entry) → List ℕ
index_bytes at rows = head_bytes 1 (length at) ++ (flat_map word at ++ flat_map row_bytes rows)

-- an index with its vias: the same of version 2, whose rows have a via with each entry
abbrev pub via_bytes : List ℕ → List (List Entry) → List (List ℕ) → List ℕ
via_bytes at rows vias = head_bytes 2 (length at) ++ (flat_map word at ++ flat_map traced_row_bytes (zip rows vias))

-- how many entries the rows have together
abbrev pub entry_count : List (List Entry) → ℕ
entry_count rows = sum_by length rows

-- ---- either version: with vias, or without

-- the version of the layout
abbrev pub version_of : Option (List (List ℕ)) → ℕ
version_of None = 1
version_of (Some vias) = 2

-- entries of a row, with their vias where the index has such
abbrev pub entries_bytes : Option (List (List ℕ)) → List Entry → List ℕ → List ℕ
entries_bytes None entries vias = flat_map entry_bytes entries
entries_bytes (Some all) entries vias = flat_map traced_entry_bytes (zip entries vias)

-- rows
abbrev pub rows_bytes : List (List Entry) → Option (List (List ℕ)) → List ℕ
rows_bytes rows None = flat_map row_bytes rows
rows_bytes rows (Some vias) = flat_map traced_row_bytes (zip rows vias)

-- an index
abbrev pub stored_bytes : List ℕ → List (List Entry) → Option (List (List ℕ)) → List ℕ
stored_bytes at rows vias = head_bytes (version_of vias) (length at) ++ (flat_map word at ++ rows_bytes rows vias)

-- what stands before the rows: the head, and the nodes in ranked order
abbrev pub before_rows : ℕ → List ℕ → List ℕ
before_rows version at = head_bytes version (length at) ++ flat_map word at

-- the row of the node v
abbrev pub node_bytes : List (List Entry) → Option (List (List ℕ)) → ℕ → List ℕ
node_bytes rows None v = row_bytes (label_row rows v)
node_bytes rows (Some vias) v = traced_row_bytes (label_row rows v, via_row vias v)

-- the rows of the nodes after `from` up to `to`
abbrev pub run_bytes : List (List Entry) → Option (List (List ℕ)) → ℕ → ℕ → List ℕ
run_bytes rows None from to = flat_map row_bytes (take (to - from) (drop from rows))
run_bytes rows (Some vias) from to = flat_map traced_row_bytes (take (to - from) (drop from (zip rows vias)))
