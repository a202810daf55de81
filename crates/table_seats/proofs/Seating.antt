-- Each kind of step keeps what holds of the seats at a table.
use Rattle.std.proofs.Common.{◌≡◌, ◌≢◌, ℕ, ◌+◌, ◌<◌, ◌≤◌, List, [], ◌∷◌, ◌++◌, set, refl, arith}
use mathlib.Core.Option.{some}
use lib.ListN.{get_elem?}
use Rattle.table_seats.specs.declared.seat_view.SeatView.{SeatView}
use Rattle.table_seats.specs.Seats.{IsSeating, first_of, knowing, kept_of, given_of, joined, spent}
use Rattle.table_seats.proofs.EachSeat.{Each-one, Each-set, Each-split, Each-join, sum_by-changed, sum_by-split, sum_by-join, one_within, two_within}

module _ {W : Type 0} (all : ℕ) (IsFixed : W → Type 0) (nothing : W) where
  abbrev Fixed : SeatView W → Type 0
  Fixed v = 1 ≤ v.seats → IsFixed v.knows

  abbrev Emptied : SeatView W → Type 0
  Emptied v = v.seats ≡ 0 → v.knows ≡ nothing

  abbrev size : SeatView W → ℕ
  size v = v.seats

  pub begins : (knows : W) → 1 ≤ all → all ≤ 64 → IsFixed knows → IsSeating all IsFixed nothing (first_of all knows ∷ [])
  begins knows some_seat few fixed = record {
    counted = let sum : 0 + all ≡ all = omega arith in sum;
    few = few;
    fixed = Each-one Fixed (first_of all knows) (λ _. fixed);
    emptied = Each-one Emptied (first_of all knows) (λ none. absurd (omega (arith, none, some_seat)));
  }

  module _ (views : List (SeatView W)) (id : ℕ) (v : SeatView W) (seating : IsSeating all IsFixed nothing views) (at : get_elem? views id ≡ some v) where
    -- a seat is one of the seats
    pub is_one : v.seats ≤ 64
    is_one = let one = one_within size views id v at in omega (arith, one, seating.counted, seating.few)

    pub fixed_here : 1 ≤ v.seats → IsFixed v.knows
    fixed_here live = seating.fixed id v at live

    -- a live seat comes to know something else
    pub learns : (knows : W) → 1 ≤ v.seats → IsFixed knows → IsSeating all IsFixed nothing (set views id (knowing v knows))
    learns knows live fixed = record {
      counted = let c = sum_by-changed size views id v (knowing v knows) at in omega (arith, c, seating.counted);
      few = seating.few;
      fixed = Each-set Fixed views id (knowing v knows) seating.fixed (λ _. fixed);
      emptied = Each-set Emptied views id (knowing v knows) seating.emptied (λ none. absurd (omega (arith, none, live)));
    }

    -- another seat is split from it
    pub splits : (given : W → W) (give : ℕ) → give + 1 < v.seats → IsFixed v.knows → IsFixed (given v.knows) → IsSeating all IsFixed nothing (set views id (kept_of give v) ++ given_of given give v ∷ [])
    splits given give enough here there = record {
      counted = let c = sum_by-split size views id v (kept_of give v) (given_of given give v) at in omega (arith, c, enough, seating.counted);
      few = seating.few;
      fixed = Each-split Fixed views id (kept_of give v) (given_of given give v) seating.fixed (λ _. here) (λ _. there);
      emptied = Each-split Emptied views id (kept_of give v) (given_of given give v) seating.emptied (λ none. absurd (omega (arith, none, enough))) (λ none. absurd (omega (arith, none)));
    }

    -- another seat is joined into it
    pub joins : (both : W → W → W) (other : ℕ) (u : SeatView W) → other ≢ id → get_elem? views other ≡ some u → 1 ≤ v.seats → IsFixed (both v.knows u.knows)
        → IsSeating all IsFixed nothing (set (set views id (joined both v u)) other (spent nothing))
    joins both other u apart there live fixed = record {
      counted = let c = sum_by-join size views id other v u (joined both v u) (spent nothing) apart at there in omega (arith, c, seating.counted);
      few = seating.few;
      fixed = Each-join Fixed views id other (joined both v u) (spent nothing) seating.fixed (λ _. fixed) (λ some. absurd (omega (arith, some)));
      emptied = Each-join Emptied views id other (joined both v u) (spent nothing) seating.emptied (λ none. absurd (omega (arith, none, live))) (λ _. refl);
    }

    -- where one seat counts for all, the others know nothing
    pub others_empty : v.seats ≡ all → (j : ℕ) (w : SeatView W) → j ≢ id → get_elem? views j ≡ some w → w.knows ≡ nothing
    others_empty last j w apart there =
        let two = two_within size views id j v w at there apart in
        seating.emptied j w there (omega (arith, two, last, seating.counted))
