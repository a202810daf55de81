-- Lists of label rows, and an index: a ranking with the rows of its nodes (pruned landmark labelling, SIGMOD 2013).
use Rattle.std.specs.Prelude.{ℕ, ◌-◌, List, [], ◌∷◌, ◌++◌, slice_set}
use Rattle.walk_laws.specs.declared.entry.Entry.{Entry}
use Rattle.walk_laws.specs.Labelling.{label_row}

-- the nodes, highest rank first, and a row of entries for each node, node 1 first
pub record HubIndex : Type 0 where
  pub order : List ℕ
  pub rows : List (List Entry)

-- the rows, with the entry last in the row of the node v
abbrev pub with_entry : List (List Entry) → ℕ → Entry → List (List Entry)
with_entry rows v e = slice_set rows (v - 1) (label_row rows v ++ e ∷ [])
