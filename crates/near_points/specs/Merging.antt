-- The lists of a source's hubs, merged: in each a cursor stands before what is to be looked at.
use Rattle.std.specs.Prelude.{◌≡◌, ◌⊎◌, ℕ, ◌+◌, ◌*◌, ◌/◌, ◌%◌, ◌^◌, ◌<◌, ◌≤◌, Bool, true, false, List, [], ◌∷◌, ◌++◌, All, AllPairs, Contains, length, slice_index_or, slice_set}
use Rattle.std.specs.BinaryHeap.{IsHeap}
use Rattle.std.specs.Ordering.{nat_cmp}
use Rattle.walk_laws.specs.declared.entry.Entry.{Entry}
use Rattle.near_points.specs.declared.cursor.Cursor.{Cursor}
use Rattle.near_points.specs.declared.hit.Hit.{Hit}
use Rattle.near_points.specs.Nearest.{IsBefore}
use Rattle.near_points.specs.PointWords.{word_at, word_pos, word_dist, word_node}

-- a sum and a node as one number, which rises as hits do
abbrev pub key_of : ℕ → ℕ → ℕ
key_of dist node = dist * 2 ^ 32 + node

-- the hit that a key stands for
abbrev pub hit_of : ℕ → Hit
hit_of key = record { node = key % 2 ^ 32; dist = key / 2 ^ 32 }

-- the key of a point by a hub of the source, whose entry this is
abbrev pub key_by : Entry → ℕ → ℕ
key_by e word = key_of (e.dist + word_dist word) (word_node word)

-- the word at the place is of the hub of this entry of the source's row
pub record IsOfHub (words : List ℕ) (row : List Entry) (e : Entry) (place : ℕ) : Type 0 where
  pub entry : Contains row e
  pub inside : place < length words
  pub same : word_pos (word_at words place) ≡ e.pos

-- the cursor stands at a word of one of the source's hubs, and has its key
pub record IsCursor (words : List ℕ) (row : List Entry) (c : Cursor) : Type 0 where
  pub entry : Entry
  pub hub : IsOfHub words row entry c.at
  pub key : c.key.0 ≡ key_by entry (word_at words c.at)

-- the node is marked
abbrev pub IsGiven : List Bool → ℕ → Type 0
IsGiven given v = slice_index_or given v false ≡ true

-- a cursor stands at the place or before it in the same list
pub record HasCursor (words : List ℕ) (cursors : List Cursor) (place : ℕ) : Type 0 where
  pub cursor : Cursor
  pub there : Contains cursors cursor
  pub before : cursor.at ≤ place
  pub same : word_pos (word_at words cursor.at) ≡ word_pos (word_at words place)

-- the points at all places of the source's hubs that no cursor has before it are given
abbrev pub AreCovered : List ℕ → List Entry → List Cursor → List Bool → Type 0
AreCovered words row cursors given = (e : Entry) (i : ℕ) → IsOfHub words row e i → IsGiven given (word_node (word_at words i)) ⊎ HasCursor words cursors i

-- the point of the hit is in a list of one of the source's hubs, and the distance is the least by these
pub record IsLeastBy (words : List ℕ) (row : List Entry) (hit : Hit) : Type 0 where
  pub entry : Entry
  pub place : ℕ
  pub hub : IsOfHub words row entry place
  pub node : word_node (word_at words place) ≡ hit.node
  pub sum : entry.dist + word_dist (word_at words place) ≡ hit.dist
  pub least : (e : Entry) (i : ℕ) → IsOfHub words row e i → word_node (word_at words i) ≡ hit.node → hit.dist ≤ e.dist + word_dist (word_at words i)

-- a cursor stands in each list of the source's hubs, before all of it
pub record AreBegun (words : List ℕ) (row : List Entry) (cursors : List Cursor) : Type 0 where
  pub are : All (IsCursor words row) cursors
  pub covered : (e : Entry) (i : ℕ) → IsOfHub words row e i → HasCursor words cursors i

-- a later place in the same list, and the points between are given
pub record IsNext (words : List ℕ) (given : List Bool) (at next : ℕ) : Type 0 where
  pub later : at < next
  pub inside : next < length words
  pub same : word_pos (word_at words next) ≡ word_pos (word_at words at)
  pub between : (i : ℕ) → at < i → i < next → IsGiven given (word_node (word_at words i))

-- the points at all later places of the list are given
abbrev pub IsLast : List ℕ → List Bool → ℕ → Type 0
IsLast words given at = (i : ℕ) → at < i → i < length words → word_pos (word_at words i) ≡ word_pos (word_at words at) → IsGiven given (word_node (word_at words i))

-- the hit of the key is given and its node marked, or it was before and nothing changes
abbrev pub IsTaken : ℕ → List Bool → List Hit → List Bool → List Hit → Type 0
IsTaken key given hits given_now hits_now =
    (IsGiven given (hit_of key).node × (given_now ≡ given) × (hits_now ≡ hits))
    ⊎ ((¬ IsGiven given (hit_of key).node) × (given_now ≡ slice_set given (hit_of key).node true) × (hits_now ≡ hits ++ hit_of key ∷ []))

-- the heap of the cursors has a least key in front
abbrev pub HasLeastFirst : List Cursor → Type 0
HasLeastFirst cursors = IsHeap (λ a b. nat_cmp b.key.0 a.key.0) cursors

-- the marked nodes are those of the hits
pub record AreMarked (given : List Bool) (hits : List Hit) : Type 0 where
  pub each : All (λ h. IsGiven given h.node) hits
  pub others : (v : ℕ) → IsGiven given v → (h : Hit) × Contains hits h × (h.node ≡ v)

-- the hits so far, and what the cursors have left to look at
pub record IsMerged (words : List ℕ) (row : List Entry) (cursors : List Cursor) (given : List Bool) (hits : List Hit) : Type 0 where
  pub are : All (IsCursor words row) cursors
  pub covered : AreCovered words row cursors given
  pub marked : AreMarked given hits
  pub least : All (IsLeastBy words row) hits
  pub rising : AllPairs IsBefore hits
  pub before : All (λ c. All (λ h. key_of h.dist h.node ≤ c.key.0) hits) cursors
