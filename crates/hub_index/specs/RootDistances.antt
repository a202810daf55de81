-- A root's hubs by position, and which entries of a row they cover (pruned landmark labelling, SIGMOD 2013).
use Rattle.std.specs.Prelude.{◌≡◌, ◌↔◌, ℕ, ◌+◌, ◌<◌, ◌≤◌, min, List, [], ◌∷◌, Option, Some, None, Contains, slice_index_or, slice_set}
use Rattle.walk_laws.specs.declared.entry.Entry.{Entry}

-- the distance at the position p, or None
abbrev pub root_distance : List (Option ℕ) → ℕ → Option ℕ
root_distance table p = slice_index_or table p None

-- the lesser of what was known of a distance and another one
abbrev pub lesser : Option ℕ → ℕ → ℕ
lesser None d = d
lesser (Some known) d = min known d

-- the table with the entry: its position has the lesser of the old and the new distance
abbrev pub with_noted : List (Option ℕ) → Entry → List (Option ℕ)
with_noted table e = slice_set table e.pos (Some (lesser (root_distance table e.pos) e.dist))

-- the table in which the entries are noted, one after another
abbrev pub noted : List (Option ℕ) → List Entry → List (Option ℕ)
noted table [] = table
noted table (e ∷ es) = noted (with_noted table e) es

-- the entry makes one at the position p with distance d needless: its hub ranks above that of p, and its distance together with the root's is no longer than d
pub record IsCover (table : List (Option ℕ)) (p d : ℕ) (e : Entry) : Type 0 where
  pub above : e.pos < p
  pub root : ℕ
  pub held : root_distance table e.pos ≡ Some root
  pub short : root + e.dist ≤ d

-- d is the least distance that the row has at the position p
pub record IsLeastAt (row : List Entry) (p d : ℕ) : Type 0 where
  pub there : Contains row (record { pos = p; dist = d })
  pub least : (e : ℕ) → Contains row (record { pos = p; dist = e }) → d ≤ e

-- the table has the least distance of each position of the row, and nothing else
abbrev pub HoldsRow : List (Option ℕ) → List Entry → Type 0
HoldsRow table row = (p d : ℕ) → (root_distance table p ≡ Some d) ↔ IsLeastAt row p d
