-- How far the entries of rows reach.
use Rattle.std.specs.Prelude.{◌≡◌, ℕ, ◌<◌, ◌≤◌, List, ◌∷◌, ◌++◌, All, length}
use Rattle.walk_laws.specs.declared.entry.Entry.{Entry}
use Rattle.walk_laws.specs.Labelling.{label_row}
use Rattle.hub_index.specs.declared.node_entry.NodeEntry.{NodeEntry}
use Rattle.hub_index.specs.NodeEntries.{entry_of}
use Rattle.hub_index.specs.Views.{IsNode}

abbrev pub IsBelow : ℕ → Entry → Type 0
IsBelow limit e = e.dist < limit

-- the entry is the first of the row whose distance is not below the limit
pub record IsFirstFrom (limit : ℕ) (row : List Entry) (e : Entry) : Type 0 where
  pub before : List Entry
  pub after : List Entry
  pub row_is : row ≡ before ++ e ∷ after
  pub below : All (IsBelow limit) before
  pub far : limit ≤ e.dist

-- each distance in the rows is below the limit
abbrev pub AreBelow : ℕ → List (List Entry) → Type 0
AreBelow limit rows = (v : ℕ) → 1 ≤ v → v ≤ length rows → All (IsBelow limit) (label_row rows v)

-- the entry is the first of the rows, by rising node and then by its place in the row, whose distance is not below the limit
pub record IsFirstOfRows (limit : ℕ) (rows : List (List Entry)) (e : NodeEntry) : Type 0 where
  pub node : IsNode (length rows) e.node
  pub first : IsFirstFrom limit (label_row rows e.node) (entry_of e)
  pub before : (v : ℕ) → 1 ≤ v → v < e.node → All (IsBelow limit) (label_row rows v)
