-- The rule of the rows, which holds between any two steps, and what each step changes. Word 0 is of no node; the node v has its lock word at v, and its row in the slot v - 1.
use Rattle.std.specs.Prelude.{◌≡◌, ◌⊎◌, ℕ, ◌+◌, ◌-◌, Option, Some, None, List, [], ◌∷◌, ◌++◌, All, IsPermutation, flat_map, length, slice_get, slice_index}
use mathlib.Core.Option.{some}
use lib.ListN.{get_elem?}
use Rattle.atomic_table.specs.Table.{State, Me, Step, rest}
use Rattle.walk_laws.specs.declared.entry.Entry.{Entry}
use Rattle.walk_laws.specs.Joined.{Joined}
use Rattle.walk_laws.specs.Labelling.{EntryFits}
use Rattle.hub_index.specs.Views.{IsNode, GoesOnFrom}
use Rattle.table_seats.specs.declared.seat_view.SeatView.{SeatView}
use Rattle.table_seats.specs.Numbers.{numbers}
use Rattle.table_seats.specs.Seats.{Each, IsSeating, first_of, knowing}
use Rattle.label_rows.specs.declared.rule.About.{About}
use Rattle.label_rows.specs.declared.rule.Held.{Held}
use Rattle.label_rows.specs.declared.rule.Visit.{Visit}
use Rattle.label_rows.specs.declared.rule.View.{View}
use Rattle.label_rows.specs.Visits.{put_list, left_by, visits_of, seen_of, places_of}

-- the words, the rows at home, and what each seat knows
abbrev pub Table : Type 0
Table = State (List Entry) (SeatView View)

abbrev pub Sitter : Type 0
Sitter = Me (List Entry) (SeatView View)

-- the seat has the lock of the node v, and found this row
abbrev pub Holds : SeatView View → ℕ → List Entry → Type 0
Holds seat v row = seat.knows.hold ≡ Some (record { node = v; row = row })

-- the node v is free: its lock word is 0, its row is at home, and no seat has the lock
pub record IsFree (s : Table) (v : ℕ) (row : List Entry) : Type 0 where
  pub word : slice_index s.words v ≡ 0
  pub at_home : get_elem? s.homes (v - 1) ≡ some (some row)
  pub by_none : Each (λ seat. (found : List Entry) → ¬ Holds seat v found) s.views

-- the node v is taken: its lock word is 1, and exactly one seat has the lock, with the row
pub record IsTaken (s : Table) (v : ℕ) (row : List Entry) : Type 0 where
  pub word : slice_index s.words v ≡ 1
  pub by : ℕ
  pub holder : SeatView View
  pub there : get_elem? s.views by ≡ some holder
  pub holds : Holds holder v row
  pub by_one : (id : ℕ) (seat : SeatView View) (found : List Entry) → get_elem? s.views id ≡ some seat → Holds seat v found → id ≡ by

-- The row of the node v: at home where v is free, and else the row that was found by the seat which has the lock. Its entries may stand there, what each visit left still stands in it, and at each of its places exactly one visit, of all seats, put an entry
pub record IsRowOf (about : About) (s : Table) (v : ℕ) (row : List Entry) : Type 0 where
  pub place : IsFree s v row ⊎ IsTaken s v row
  pub fit : All (EntryFits (Joined about.graph.value.edges) about.ranking.value v) row
  pub visited : Each (λ seat. All (λ x. GoesOnFrom (left_by x) row) (visits_of seat.knows.visits v)) s.views
  pub each_once : IsPermutation (flat_map (λ seat. places_of seat.knows.visits v) s.views) (numbers 0 (length row))

-- a seat of rows of this graph and this ranking
pub record IsSeated (about : About) (seat : View) : Type 0 where
  pub edges : seat.edges ≡ about.graph.value.edges
  pub order : seat.order ≡ about.ranking.value
  pub all : seat.all ≡ about.seats

-- what a seat knows that has no lock and made no visit
abbrev pub fresh : View → View
fresh seat = record { edges = seat.edges; order = seat.order; all = seat.all; hold = None; visits = [] }

-- what a seat knows into which another was joined
abbrev pub both : View → View → View
both seat other = record seat { visits = seat.visits ++ other.visits }

-- what a seat knows that was joined into another
abbrev pub nothing : View
nothing = record { edges = []; order = []; all = 0; hold = None; visits = [] }

-- What holds of the words, the rows and the seats
pub record IsLawful (about : About) (s : Table) : Type 0 where
  -- the seats, with those that may still be split from them, are as many as the rows have, and all are of one graph and one ranking
  pub seating : IsSeating about.seats (IsSeated about) nothing s.views
  -- a word for each node, after one that is always 0, and a slot for each node
  pub words : length s.words ≡ length about.ranking.value + 1
  pub zero : slice_index s.words 0 ≡ 0
  pub slots : length s.homes ≡ length about.ranking.value
  -- each node has a row
  pub rows : (v : ℕ) → IsNode (length about.ranking.value) v → (row : List Entry) × IsRowOf about s v row

-- what the first seat knows
abbrev pub first_known : About → View
first_known about = record { edges = about.graph.value.edges; order = about.ranking.value; all = about.seats; hold = None; visits = [] }

-- the first seat
abbrev pub first_view : About → SeatView View
first_view about = first_of about.seats (first_known about)

-- the seat that took the lock of the node v and found the row
abbrev pub took : SeatView View → ℕ → List Entry → SeatView View
took seat v row = knowing seat (record seat.knows { hold = Some (record { node = v; row = row }) })

-- What a take tells. Where the lock was free, the seat has it, with the node's row, which goes on from what the seat saw of it. Else nothing has changed
pub record IsTake (me : Sitter) (v : ℕ) (after : Sitter) : Type 0 where
  pub row : List Entry
  pub view : after.0 ≡ took me.0 v row
  pub slot : after.1 ≡ (v - 1, row) ∷ me.1
  pub fit : All (EntryFits (Joined me.0.knows.edges) me.0.knows.order v) row
  pub goes_on : GoesOnFrom (seen_of me.0.knows.visits v) row

abbrev pub Took : Step (List Entry) → Sitter → ℕ → Sitter → Type 0
Took step me found after = (found ≡ 0 → IsTake me step.word after) × (¬ (found ≡ 0) → after ≡ me)

-- the visit of a seat which has a lock, and gives it back with the row as it is then
abbrev pub visits_by : Option Held → List Entry → List Visit
visits_by None row = []
visits_by (Some held) row = record { node = held.node; found = held.row; put = slice_get row (length held.row) } ∷ []

-- the seat that gave its lock back
abbrev pub gave : SeatView View → List Entry → SeatView View
gave seat row = knowing seat (record seat.knows { hold = None; visits = seat.knows.visits ++ visits_by seat.knows.hold row })

-- the row in the slot that the seat has
abbrev pub slot_row : List (ℕ × List Entry) → List Entry
slot_row [] = []
slot_row (slot ∷ others) = slot.1

-- what a give tells: the seat has one visit more, and no slot
abbrev pub Gave : Step (List Entry) → Sitter → ℕ → Sitter → Type 0
Gave step me found after = (after.0 ≡ gave me.0 (slot_row me.1)) × (after.1 ≡ rest me.1)

-- a seat which has the lock of v may give back the row that it found, or that with one entry after it which may stand there
pub record MayGive (seat : SeatView View) (v : ℕ) (row : List Entry) : Type 0 where
  pub found : List Entry
  pub put : Option Entry
  pub holds : Holds seat v found
  pub grown : row ≡ found ++ put_list put
  pub fits : All (EntryFits (Joined seat.knows.edges) seat.knows.order v) (put_list put)

-- a look shows nothing of what a seat knows
abbrev pub SeesNothing : View → Type 0
SeesNothing seat = Unit {0}
