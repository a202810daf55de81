-- Entries of rows, each with its node, and the rows that are gathered of entries.
use Rattle.std.specs.Prelude.{ℕ, ◌==◌, List, [], ◌∷◌, filter, map, if◌then◌else◌}
use Rattle.std.specs.List.Sorted.{IsNonDecreasingBy, IsPermutation}
use Rattle.walk_laws.specs.declared.entry.Entry.{Entry}
use Rattle.hub_index.specs.declared.node_entry.NodeEntry.{NodeEntry}

-- the entry without its node
abbrev pub entry_of : NodeEntry → Entry
entry_of e = record { pos = e.pos; dist = e.dist }

-- the entries of one node among those of several
abbrev pub entries_of_node : List NodeEntry → ℕ → List Entry
entries_of_node entries v = map (λ e. entry_of e) (filter (λ e. e.node == v) entries)

-- the entry, where the node is v
abbrev pub entry_if : ℕ → ℕ → Entry → List Entry
entry_if node v e = if node == v then e ∷ [] else []

-- the row has these entries, each as often, by rising position
pub record IsGatheredRow (entries row : List Entry) : Type 0 where
  pub rising : IsNonDecreasingBy (λ e. e.pos) row
  pub same : IsPermutation entries row
