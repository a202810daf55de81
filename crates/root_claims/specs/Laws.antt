-- The laws of the rule: it holds at first, and each step of a live seat keeps it, whichever seats there are beside.
use Rattle.std.specs.Prelude.{◌≡◌, ◌≢◌, ℕ, ◌+◌, ◌^◌, ◌<◌, ◌≤◌, false, List, [], ◌∷◌, ◌++◌, min, slice_set}
use Rattle.table_seats.specs.declared.seat_view.SeatView.{SeatView}
use Rattle.table_seats.specs.Seats.{IsSeat, kept_of, given_of, joined, spent}
use Rattle.root_claims.specs.declared.rule.Bounds.{Bounds}
use Rattle.root_claims.specs.declared.rule.View.{View}
use Rattle.root_claims.specs.Lawful.{IsLawful, first_view, drew, settled, given, both, nothing}

abbrev pub HoldsAtFirst : Type 0
HoldsAtFirst = (about : Bounds) → about.first ≤ about.n → about.n ≤ 2 ^ 30 → 1 ≤ about.seats → about.seats ≤ 64 → IsLawful about about.first (first_view about ∷ [])

-- a seat that isn't over draws the number at which the counter stands, which goes on by one
abbrev pub DrawsKeep : Type 0
DrawsKeep = (about : Bounds) (counter : ℕ) (views : List (SeatView View)) (id : ℕ) (v : SeatView View) → IsLawful about counter views → IsSeat views id v → v.knows.over ≡ false
    → IsLawful about (counter + 1) (slice_set views id (drew v counter))

-- a new seat is split from a seat that has as many
abbrev pub SplitsKeep : Type 0
SplitsKeep = (about : Bounds) (counter : ℕ) (views : List (SeatView View)) (id : ℕ) (v : SeatView View) (give : ℕ) → IsLawful about counter views → IsSeat views id v → give + 1 < v.seats
    → IsLawful about counter (slice_set views id (kept_of give v) ++ given_of given give v ∷ [])

-- the last seat settles what was drawn, and all is as if the claims began at the next number
abbrev pub SettlesKeep : Type 0
SettlesKeep = (about : Bounds) (counter : ℕ) (views : List (SeatView View)) (id : ℕ) (v : SeatView View) → IsLawful about counter views → IsSeat views id v → v.seats ≡ about.seats
    → IsLawful (record { first = min counter about.n; n = about.n; seats = about.seats }) counter (slice_set views id (settled v counter))

-- a seat is joined into another
abbrev pub JoinsKeep : Type 0
JoinsKeep = (about : Bounds) (counter : ℕ) (views : List (SeatView View)) (id other : ℕ) (v w : SeatView View) → IsLawful about counter views → IsSeat views id v → IsSeat views other w → other ≢ id
    → IsLawful about counter (slice_set (slice_set views id (joined both v w)) other (spent nothing))
