-- What has been read of an index that isn't whole yet, and what may stand in its next field.
use Rattle.std.specs.Prelude.{ℕ, ◌+◌, ◌^◌, ◌==◌, nat_eq, nat_lt, nat_le, Bool, not, ◌&&◌, List, [], ◌∷◌, ◌++◌, length, max, if◌then◌else◌, Option, Some, None}
use Rattle.std.specs.List.{list_any}
use Rattle.walk_laws.specs.declared.entry.Entry.{Entry}
use Rattle.walk_laws.specs.Ranking.{position_of}

-- ---- the order

-- of so many nodes these are named, highest rank first; and whether vias are to come with the entries
pub record Names : Type 0 where
  pub n : ℕ
  pub order : List ℕ
  pub traced : Bool

-- one node more
abbrev pub with_node : Names → ℕ → Names
with_node names v = record { n = names.n; order = names.order ++ v ∷ []; traced = names.traced }

-- a node of 1..n that wasn't named before
abbrev pub is_new_node : Names → ℕ → Bool
is_new_node names v = nat_le 1 v && (nat_le v names.n && not (list_any (nat_eq v) names.order))

-- ---- the rows

-- a ranking, the rows of its first nodes, and the vias of these where the index has such
pub record ReadRows : Type 0 where
  pub order : List ℕ
  pub rows : List (List Entry)
  pub vias : Option (List (List ℕ))

-- no row yet
abbrev pub no_vias : Bool → Option (List (List ℕ))
no_vias traced = if traced then Some [] else None

abbrev pub no_rows : Names → ReadRows
no_rows names = record { order = names.order; rows = []; vias = no_vias names.traced }

-- one row more
abbrev pub more_vias : Option (List (List ℕ)) → List ℕ → Option (List (List ℕ))
more_vias None row = None
more_vias (Some vias) row = Some (vias ++ row ∷ [])

abbrev pub with_row : ReadRows → List Entry → List ℕ → ReadRows
with_row done row vias = record { order = done.order; rows = done.rows ++ row ∷ []; vias = more_vias done.vias vias }

-- the node whose row comes after those that are done, and its position
abbrev pub next_node : ReadRows → ℕ
next_node done = length done.rows + 1

abbrev pub next_own : ReadRows → ℕ
next_own done = position_of done.order (next_node done)

-- ---- one row

-- of so many entries of a row these are read, with their vias where the index has such
pub record Part : Type 0 where
  pub count : ℕ
  pub entries : List Entry
  pub vias : List ℕ

-- no entry yet
abbrev pub no_entries : ℕ → Part
no_entries count = record { count = count; entries = []; vias = [] }

-- one entry more
abbrev pub with_entry : Part → Entry → Part
with_entry part e = record { count = part.count; entries = part.entries ++ e ∷ []; vias = part.vias }

-- one via more
abbrev pub with_via : Part → ℕ → Part
with_via part y = record { count = part.count; entries = part.entries; vias = part.vias ++ y ∷ [] }

-- the next entry of the row is its last one
abbrev pub is_last : Part → Bool
is_last part = length part.entries + 1 == part.count

-- the least position above those of the entries
abbrev pub least_after : List Entry → ℕ
least_after [] = 0
least_after (e ∷ entries) = max (e.pos + 1) (least_after entries)

-- a position above the previous ones, and at the last place the node's own, elsewhere below that
abbrev pub is_next_position : ℕ → Part → ℕ → Bool
is_next_position own part pos = nat_le (least_after part.entries) pos && (if is_last part then pos == own else nat_lt pos own)

-- at the last place 0, elsewhere any other number of eight bytes
abbrev pub is_next_distance : Part → ℕ → Bool
is_next_distance part dist = if is_last part then dist == 0 else (nat_le 1 dist && nat_lt dist (2 ^ 64))

-- of the row of v in an index of n nodes: at the last place 0, elsewhere a node, but v
abbrev pub is_next_via : ℕ → ℕ → Part → ℕ → Bool
is_next_via n v part y = if is_last part then y == 0 else (nat_le 1 y && (nat_le y n && not (y == v)))
