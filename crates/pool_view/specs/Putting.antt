-- What one worker puts in a superstep, in the pool and in rows of its own.
use Rattle.std.specs.Prelude.{◌≡◌, ℕ, ◌^◌, ◌≤◌, List, [], ◌∷◌, ◌++◌, All, None, length, map, replicate}
use Rattle.walk_laws.specs.declared.entry.Entry.{Entry}
use Rattle.hub_index.specs.declared.node_entry.NodeEntry.{NodeEntry}
use Rattle.hub_index.specs.HubIndex.{with_entry}
use Rattle.hub_index.specs.NodeEntries.{entries_of_node, entry_of}
use Rattle.hub_index.specs.Views.{IsNode}
use Rattle.pool_view.specs.declared.chains.Chains.{Chains}
use Rattle.pool_view.specs.Chains.{AreChained}
use Rattle.label_pool.specs.declared.rule.Put.{Put}
use Rattle.label_pool.specs.Seats.{Seated}
use Rattle.pool_view.specs.Fitting.{Fitting}

-- the number of nodes, all that was put, in order, and what of it was kept, in order
pub record Putting : Type 0 where
  pub n : ℕ
  pub list : List NodeEntry
  pub kept : List NodeEntry

-- the list, with the entry of v last
abbrev pub listed : List NodeEntry → ℕ → Entry → List NodeEntry
listed list v e = list ++ record { node = v; pos = e.pos; dist = e.dist } ∷ []

-- the rows, after which the entries of a list were put, one after another
abbrev pub rows_with : List (List Entry) → List NodeEntry → List (List Entry)
rows_with rows [] = rows
rows_with rows (e ∷ es) = rows_with (with_entry rows e.node (entry_of e)) es

-- the own rows: those of what was kept
abbrev pub own_rows : Putting → List (List Entry)
own_rows puts = rows_with (replicate puts.n []) puts.kept

-- the entries are of nodes, and all of them are chained
pub record AreKept (entries : List NodeEntry) (chains : Chains) : Type 0 where
  pub nodes : All (λ e. IsNode (length chains.heads.items) e.node) entries
  pub chained : AreChained entries (length entries) chains

-- what was put in the pool, as it is listed
abbrev pub put_entry : Put → NodeEntry
put_entry put = record { node = put.node; pos = put.linked.entry.pos; dist = put.linked.entry.dist }

-- the first of the entries, if there is one, is so far that a cell has no room for its distance
abbrev pub BeginsFar : List Entry → Type 0
BeginsFar [] = Unit {0}
BeginsFar (e ∷ es) = 2 ^ 64 ≤ e.dist

-- at each node, what is kept begins with such an entry
abbrev pub AreFar : List NodeEntry → Type 0
AreFar kept = (v : ℕ) → BeginsFar (entries_of_node kept v)

-- at each node the list has what was put in the pool, in that order, and after it what was kept
abbrev pub IsListFrom : List Put → List NodeEntry → List NodeEntry → Type 0
IsListFrom puts kept list = (v : ℕ) → entries_of_node list v ≡ entries_of_node (map put_entry puts) v ++ entries_of_node kept v

abbrev pub IsPooledBy : Seated Fitting → Putting → Type 0
IsPooledBy seat puts = IsListFrom seat.puts puts.kept puts.list

-- at each node the list has what the seat put in the pool, in that order, and after it what was kept: while the seat has not drawn past the last cell, nothing but an entry too far for a cell and what comes after it
pub record IsListOf (seat : Seated Fitting) (list : List NodeEntry) : Type 0 where
  pub kept : List NodeEntry
  pub list_is : IsListFrom seat.puts kept list
  pub far : seat.past ≡ None → AreFar kept
