-- The canonical hub labelling up to a position, and tables from which it can be cleaned (Planting Trees, PVLDB 2019).
use Rattle.std.specs.Prelude.{ℕ, ◌<◌, ◌≤◌, List, All, Contains, length}
use Rattle.walk_laws.specs.declared.graph.Edge.{Edge}
use Rattle.walk_laws.specs.declared.entry.Entry.{Entry}
use Rattle.walk_laws.specs.Joined.{Joined}
use Rattle.walk_laws.specs.Labelling.{EntryFits, IsHubEntry, IsPartRow, IsPartChl}
use Rattle.walk_laws.specs.Laws.{WeighAtLeastOne}
use Rattle.label_clean.specs.RawRows.{HasEachOnce, both_rows}

-- the row holds exactly the hubs of v with a position below c, by rising position
abbrev pub IsRowBelow : List Edge → List ℕ → ℕ → ℕ → List Entry → Type 0
IsRowBelow edges at c v row = IsPartRow (Joined edges) at (λ p. p < c) v row

-- a row for each node, with exactly its hubs that have a position below c
abbrev pub IsChlBelow : List Edge → List ℕ → ℕ → List (List Entry) → Type 0
IsChlBelow edges at c rows = IsPartChl (Joined edges) at (λ p. p < c) rows

-- each edge weighs at least 1, and the row of each node in both tables together holds only entries that may stand in it, with positions below c, at most one of each hub, and every hub of the node with a position below c
pub record HoldsBelow (edges : List Edge) (at : List ℕ) (c : ℕ) (global raw : List (List Entry)) : Type 0 where
  pub weights : WeighAtLeastOne edges
  pub fit : (v : ℕ) → 1 ≤ v → v ≤ length at → All (EntryFits (Joined edges) at v) (both_rows global raw v)
  pub below : (v : ℕ) → 1 ≤ v → v ≤ length at → All (λ e. e.pos < c) (both_rows global raw v)
  pub once : (v : ℕ) → 1 ≤ v → v ≤ length at → HasEachOnce (both_rows global raw v)
  pub hubs : (v : ℕ) → 1 ≤ v → v ≤ length at → (e : Entry) → IsHubEntry (Joined edges) at v e → e.pos < c → Contains (both_rows global raw v) e
