-- Many lists of entries with their runs, and their runs in turn.
use Rattle.std.specs.Prelude.{◌≡◌, ℕ, ◌<◌, List, [], All, get_or, length, map, flat_map}
use Rattle.std.specs.List.Sorted.{IsNonDecreasingBy, IsPermutation}
use Rattle.hub_index.specs.declared.node_entry.NodeEntry.{NodeEntry}
use Rattle.label_clean.specs.declared.runs.Run.{Run}
use Rattle.label_clean.specs.declared.runs.RunList.{RunList}
use Rattle.label_clean.specs.declared.turns.Turn.{Turn}
use Rattle.label_clean.specs.RootRuns.{AreRunsOf, IsRunIn, entries_of_run}

-- the runs of a list are those of its entries
abbrev pub HasItsRuns : RunList → Type 0
HasItsRuns list = AreRunsOf list.entries.items list.runs.items

-- the entries of all lists, one list after another
abbrev pub all_entries : List RunList → List NodeEntry
all_entries lists = flat_map (λ list. list.entries.items) lists

-- the entries of the list at a place
abbrev pub entries_at : List RunList → ℕ → List NodeEntry
entries_at lists place = get_or (map (λ list. list.entries.items) lists) place []

-- a run of the list at a place, and its entries
abbrev pub turn_of : ℕ → Run → Turn
turn_of place run = record { list = place; run = run }

abbrev pub part_of : List RunList → Turn → List NodeEntry
part_of lists turn = entries_of_run (entries_at lists turn.list) turn.run

-- there is such a list, and it has the run
pub record IsTurnOf (lists : List RunList) (turn : Turn) : Type 0 where
  pub list : turn.list < length lists
  pub run : IsRunIn (entries_at lists turn.list) turn.run

-- the turns come by position, and are the pieces in which the lists were cut
pub record AreTurnsOf (lists : List RunList) (turns : List Turn) : Type 0 where
  pub pieces : List Turn
  pub whole : flat_map (part_of lists) pieces ≡ all_entries lists
  pub moved : IsPermutation pieces turns
  pub each : All (IsTurnOf lists) turns
  pub rising : IsNonDecreasingBy (λ turn. turn.run.pos) turns
