-- A take and a give are one visit of the seat.
use Rattle.std.proofs.Common.{◌≡◌, ℕ, List, [], ◌++◌, All, refl, ap, subst, ◌∙◌}
use Rattle.std.specs.Prelude.{Option}
use Rattle.std.proofs.lemmas.List.Elements.{All-cons, All-nil}
use Rattle.atomic_table.specs.Seated.{TableId}
use Rattle.walk_laws.specs.declared.entry.Entry.{Entry}
use Rattle.walk_laws.specs.declared.graph.Edge.{Edge}
use Rattle.walk_laws.specs.Joined.{Joined}
use Rattle.walk_laws.specs.Labelling.{EntryFits}
use Rattle.hub_index.specs.declared.row_view.Offer.{Offer}
use Rattle.hub_index.specs.declared.row_view.Offer.TheVariants.{Put, Covered, NoMemory}
use Rattle.hub_index.specs.Views.{IsFoundOnward, GoesOnFrom}
use Rattle.label_rows.specs.declared.rule.Visit.{Visit}
use Rattle.table_seats.specs.declared.seat_view.SeatView.{SeatView}
use Rattle.label_rows.specs.declared.rule.View.{View}
use Rattle.label_rows.specs.Seats.{Seated, rows_id, with_visit}
use Rattle.label_rows.specs.Visits.{put_list, put_by, visit_of, seen_of}
use Rattle.label_rows.specs.Lawful.{Holds, gave}
use Rattle.label_rows.proofs.Gives.{gave-is}
use Rattle.label_rows.proofs.SeenRows.{seen-here, goes_on-further}

-- a seat as contracts see it
abbrev pub seated : TableId → ℕ → SeatView View → Seated
seated id left view = record { rows = rows_id id view.knows; left = left; visits = view.knows.visits }

-- the seat that has a lock gives it back
pub one_visit : (id id' : TableId) (left : ℕ) (taken given : SeatView View) (v : ℕ) (found row : List Entry) (put : Option Entry) (before : Seated)
    → seated id left taken ≡ before → Holds taken v found → id' ≡ id → given ≡ gave taken row → row ≡ found ++ put_list put → seated id' left given ≡ with_visit before (visit_of v found put)
one_visit id id' left taken given v found row put before is holds same after grown =
    let now = after ∙ ap (gave taken) grown ∙ gave-is taken v found put holds in
    ap (λ (t : TableId × SeatView View). seated t.0 left t.1) (λ k. (same k, now k)) ∙ ap (λ seat. with_visit seat (visit_of v found put)) is

-- the row that a take found is a row of its node
pub row_found : (edges : List Edge) (order : List ℕ) (visits : List Visit) (v : ℕ) (found : List Entry) (before : Seated) → edges ≡ before.rows.edges → order ≡ before.rows.order → visits ≡ before.visits
    → GoesOnFrom (seen_of visits v) found → All (EntryFits (Joined edges) order v) found → IsFoundOnward (EntryFits (Joined before.rows.edges) before.rows.order v) (seen_of before.visits v) found
row_found edges order visits v found before same_edges same_order same_visits goes_on fit = record {
  goes_on = subst (λ xs. GoesOnFrom (seen_of xs v) found) same_visits goes_on;
  met = subst (λ (t : List Edge × List ℕ). All (EntryFits (Joined t.0) t.1 v) found) (λ k. (same_edges k, same_order k)) fit;
}

-- the list seen after a visit is the row as it left it
pub seen_after : (before now : Seated) (v : ℕ) (found : List Entry) (put : Option Entry) → now ≡ with_visit before (visit_of v found put) → GoesOnFrom (seen_of before.visits v) found → seen_of now.visits v ≡ found ++ put_list put
seen_after before now v found put is goes_on =
    ap (λ (seat : Seated). seen_of seat.visits v) is
    ∙ seen-here before.visits (visit_of v found put) v refl (goes_on-further (seen_of before.visits v) found (put_list put) goes_on)

-- an entry that may stand in a row may be put there
pub put-fits : (edges : List Edge) (order : List ℕ) (v : ℕ) (e : Entry) (answer : Offer) → EntryFits (Joined edges) order v e → All (EntryFits (Joined edges) order v) (put_list (put_by e answer))
put-fits edges order v e Put fits = All-cons (EntryFits (Joined edges) order v) e [] fits (All-nil (EntryFits (Joined edges) order v))
put-fits edges order v e (Covered pos dist) fits = All-nil (EntryFits (Joined edges) order v)
put-fits edges order v e NoMemory fits = All-nil (EntryFits (Joined edges) order v)
