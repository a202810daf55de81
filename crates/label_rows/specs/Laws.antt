-- The laws of the rule: it holds at first, each step of a seat keeps it, whichever seats there are beside, and of a free row it says what may be relied on.
use Rattle.std.specs.Prelude.{◌≡◌, ◌≢◌, ℕ, ◌+◌, ◌-◌, ◌<◌, ◌≤◌, Option, None, List, [], ◌∷◌, ◌++◌, All, IsPermutation, flat_map, length, replicate, slice_index, slice_set}
use mathlib.Core.Option.{Option as Home, none, some}
use lib.ListN.{get_elem?}
use Rattle.atomic_table.specs.Table.{opening}
use Rattle.walk_laws.specs.declared.entry.Entry.{Entry}
use Rattle.walk_laws.specs.Joined.{Joined}
use Rattle.walk_laws.specs.Labelling.{EntryFits}
use Rattle.hub_index.specs.Views.{IsNode}
use Rattle.table_seats.specs.declared.seat_view.SeatView.{SeatView}
use Rattle.table_seats.specs.Seats as seats
use Rattle.table_seats.specs.Seats.{kept_of, given_of, joined, spent}
use Rattle.label_rows.specs.declared.rule.About.{About}
use Rattle.label_rows.specs.declared.rule.View.{View}
use Rattle.label_rows.specs.Visits.{put_list, puts_of}
use Rattle.label_rows.specs.Lawful.{Table, Holds, IsLawful, first_view, took, gave, fresh, both, nothing}

-- among all views, in the order in which the seats came, this one is of a seat that wasn't joined into another
abbrev pub IsSeat : Table → ℕ → SeatView View → Type 0
IsSeat s id me = seats.IsSeat s.views id me

-- the table where the lock word and the slot of v, and the view of one seat, are these
abbrev pub with_lock : Table → ℕ → ℕ → Home (List Entry) → ℕ → SeatView View → Table
with_lock s v word home id w = record { words = slice_set s.words v word; homes = slice_set s.homes (v - 1) home; views = slice_set s.views id w }

-- as many empty rows as nodes, all locks free, and one seat
abbrev pub HoldsAtFirst : Type 0
HoldsAtFirst = (about : About) → 1 ≤ about.seats → about.seats ≤ 64 → IsLawful about (opening (replicate (length about.ranking.value + 1) 0) (replicate (length about.ranking.value) []) (first_view about))

-- a seat that has no lock takes one that is free, and the row is out of its slot
abbrev pub TakesKeep : Type 0
TakesKeep = (about : About) (s : Table) (id : ℕ) (me : SeatView View) (v : ℕ) → IsLawful about s → IsSeat s id me → me.knows.hold ≡ None → IsNode (length about.ranking.value) v → slice_index s.words v ≡ 0
    → (row : List Entry) × (get_elem? s.homes (v - 1) ≡ some (some row)) × IsLawful about (with_lock s v 1 none id (took me v row))

-- a seat gives a lock back with the row that it found, or with that and one entry after it which may stand there
abbrev pub GivesKeep : Type 0
GivesKeep = (about : About) (s : Table) (id : ℕ) (me : SeatView View) (v : ℕ) (found : List Entry) (put : Option Entry) → IsLawful about s → IsSeat s id me → IsNode (length about.ranking.value) v → Holds me v found
    → All (EntryFits (Joined about.graph.value.edges) about.ranking.value v) (put_list put) → IsLawful about (with_lock s v 0 (some (found ++ put_list put)) id (gave me (found ++ put_list put)))

-- a new seat is split from a seat that has as many
abbrev pub SplitsKeep : Type 0
SplitsKeep = (about : About) (s : Table) (id : ℕ) (me : SeatView View) (give : ℕ) → IsLawful about s → IsSeat s id me → give + 1 < me.seats
    → IsLawful about (record { words = s.words; homes = s.homes; views = slice_set s.views id (kept_of give me) ++ given_of fresh give me ∷ [] })

-- a seat is joined into another, where neither has a lock
abbrev pub JoinsKeep : Type 0
JoinsKeep = (about : About) (s : Table) (id other : ℕ) (me them : SeatView View) → IsLawful about s → IsSeat s id me → IsSeat s other them → other ≢ id → me.knows.hold ≡ None → them.knows.hold ≡ None
    → IsLawful about (record { words = s.words; homes = s.homes; views = slice_set (slice_set s.views id (joined both me them)) other (spent nothing) })

-- whenever a row is free, it has the entries that all seats put there, each once and nothing else
abbrev pub NothingIsLost : Type 0
NothingIsLost = (about : About) (s : Table) (v : ℕ) → IsLawful about s → IsNode (length about.ranking.value) v → slice_index s.words v ≡ 0
    → (row : List Entry) × (get_elem? s.homes (v - 1) ≡ some (some row)) × IsPermutation (flat_map (λ seat. puts_of seat.knows.visits v) s.views) row

-- whenever a row is free, it is at home, and each of its entries is the length of a walk to a hub ranked no lower than its node
abbrev pub FreeRowsFit : Type 0
FreeRowsFit = (about : About) (s : Table) (v : ℕ) → IsLawful about s → IsNode (length about.ranking.value) v → slice_index s.words v ≡ 0
    → (row : List Entry) × (get_elem? s.homes (v - 1) ≡ some (some row)) × All (EntryFits (Joined about.graph.value.edges) about.ranking.value v) row
