-- Lists of entries by runs, each of one root, and a row that has the hubs among some of them.
use Rattle.std.specs.Prelude.{◌≡◌, ◌↔◌, ◌⊎◌, ℕ, ◌-◌, ◌<◌, ◌≤◌, List, [], ◌∷◌, ◌++◌, Some, All, Contains, length, map, slice_get, take, drop, flat_map}
use Rattle.std.specs.List.Sorted.{IsStrictlyIncreasing}
use Rattle.walk_laws.specs.declared.graph.Edge.{Edge}
use Rattle.walk_laws.specs.declared.entry.Entry.{Entry}
use Rattle.walk_laws.specs.Joined.{Joined}
use Rattle.walk_laws.specs.Labelling.{IsHubEntry}
use Rattle.walk_laws.specs.Laws.{WeighAtLeastOne}
use Rattle.walk_laws.specs.Ranking.{IsRanking}
use Rattle.hub_index.specs.declared.node_entry.NodeEntry.{NodeEntry}
use Rattle.hub_index.specs.Views.{IsNode}
use Rattle.label_clean.specs.declared.runs.Run.{Run}
use Rattle.label_clean.specs.Below.{IsRowBelow}
use Rattle.label_clean.specs.Joining.{IsHubRow, JoinsRow}

-- the entries of a run of a list
abbrev pub entries_of_run : List NodeEntry → Run → List NodeEntry
entries_of_run entries run = take (run.to - run.from) (drop run.from entries)

-- the places of a run are the list's, one at least, and all entries there have its position
pub record IsRunIn (entries : List NodeEntry) (run : Run) : Type 0 where
  pub some : run.from < run.to
  pub within : run.to ≤ length entries
  pub one : All (λ e. e.pos ≡ run.pos) (entries_of_run entries run)

-- the runs are those of a list that was cut in pieces
pub record AreRunsOf (entries : List NodeEntry) (runs : List Run) : Type 0 where
  pub whole : flat_map (λ run. entries_of_run entries run) runs ≡ entries
  pub each : All (IsRunIn entries) runs

-- the last entry of a row, if there is one, stands below a position
abbrev pub EndsBelow : ℕ → List Entry → Type 0
EndsBelow pos row = (front : List Entry) (e : Entry) → row ≡ front ++ e ∷ [] → e.pos < pos

-- the row of v was the labelling up to p, and entries join it by rising position: those that are done come first, then those of a run of the root at the position q, whose late row this is, and then more
pub record JoinsNext (edges : List Edge) (at : List ℕ) (p c q v : ℕ) (hub_row before done run more : List Entry) : Type 0 where
  pub weights : WeighAtLeastOne edges
  pub ranking : IsRanking at
  pub node : IsNode (length at) v
  pub hub : (h : ℕ) → slice_get at q ≡ Some h → IsHubRow edges at p q h hub_row
  pub before_is : IsRowBelow edges at p v before
  pub joins : JoinsRow edges at p c v (done ++ (run ++ more))
  pub rising : IsStrictlyIncreasing (map (λ e. e.pos) (done ++ (run ++ more)))
  pub one : All (λ e. e.pos ≡ q) run

-- the row rises, and has the entries that it had before and those that are done and its hubs
pub record HasHubs (edges : List Edge) (at : List ℕ) (v : ℕ) (before done row : List Entry) : Type 0 where
  pub rising : IsStrictlyIncreasing (map (λ e. e.pos) row)
  pub each : (e : Entry) → Contains row e ↔ (Contains before e ⊎ (Contains done e × IsHubEntry (Joined edges) at v e))
