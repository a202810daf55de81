-- The seats at a table, in the order in which they came: what each one counts for and knows.
use Rattle.std.specs.Prelude.{◌≡◌, ℕ, ◌+◌, ◌-◌, ◌≤◌, List, sum_by}
use mathlib.Core.Option.{some}
use lib.ListN.{get_elem?}
use Rattle.atomic_table.specs.Table.{Me, Step}
use Rattle.table_seats.specs.declared.seat_view.SeatView.{SeatView}

module _ {W : Type 0} where
  -- a fact of each view
  abbrev pub Each : (SeatView W → Type 0) → List (SeatView W) → Type 0
  Each P views = (id : ℕ) (v : SeatView W) → get_elem? views id ≡ some v → P v

  -- a fact of what each live seat knows: of each that wasn't joined into another
  abbrev pub EachLive : (W → Type 0) → List (SeatView W) → Type 0
  EachLive P = Each (λ v. 1 ≤ v.seats → P v.knows)

  -- the seats that these are, with those that may still be split from them
  abbrev pub seats_of : List (SeatView W) → ℕ
  seats_of = sum_by (λ v. v.seats)

  -- this view is of a live seat
  abbrev pub IsSeat : List (SeatView W) → ℕ → SeatView W → Type 0
  IsSeat views id v = (get_elem? views id ≡ some v) × (1 ≤ v.seats)

  -- What holds of the seats at a table: they are as many as it has, at most 64; each live one knows whose it is, and a spent one knows nothing
  pub record IsSeating (all : ℕ) (IsFixed : W → Type 0) (nothing : W) (views : List (SeatView W)) : Type 0 where
    pub counted : seats_of views ≡ all
    pub few : all ≤ 64
    pub fixed : EachLive IsFixed views
    pub emptied : Each (λ v. v.seats ≡ 0 → v.knows ≡ nothing) views

  -- the first seat counts for all
  abbrev pub first_of : ℕ → W → SeatView W
  first_of all knows = record { seats = all; knows = knows }

  -- a seat that knows something else
  abbrev pub knowing : SeatView W → W → SeatView W
  knowing v knows = record { seats = v.seats; knows = knows }

  -- a seat from which another was split, and to which it gave so many of those that may still be split
  abbrev pub kept_of : ℕ → SeatView W → SeatView W
  kept_of give v = record { seats = v.seats - (give + 1); knows = v.knows }

  -- the seat that was split from it
  abbrev pub given_of : (W → W) → ℕ → SeatView W → SeatView W
  given_of given give v = record { seats = give + 1; knows = given v.knows }

  -- a seat into which another was joined
  abbrev pub joined : (W → W → W) → SeatView W → SeatView W → SeatView W
  joined both v w = record { seats = v.seats + w.seats; knows = both v.knows w.knows }

  -- a seat that was joined into another
  abbrev pub spent : W → SeatView W
  spent nothing = record { seats = 0; knows = nothing }

  -- a look changes nothing, and shows that the seat counts for at most 64, and this of what it knows
  abbrev pub looked : {S : Type 0} → (W → Type 0) → Step S → Me S (SeatView W) → ℕ → Me S (SeatView W) → Type 0
  looked sees step me found after = (after ≡ me) × (me.0.seats ≤ 64) × sees me.0.knows
