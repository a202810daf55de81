-- Numbers that seats draw from one counter, each once. What a seat knows tells the numbers that it got, and whether it is over: it drew a number past the last one, or was split from a seat or joined with one that was over.
use Rattle.std.specs.Prelude.{◌≡◌, ℕ, ◌+◌, ◌-◌, ◌<◌, ◌≤◌, Bool, true, List, IsPermutation, flat_map, sum_by, min, if◌then◌else◌}
use Rattle.table_seats.specs.declared.seat_view.SeatView.{SeatView}
use Rattle.table_seats.specs.Numbers.{numbers}
use Rattle.table_seats.specs.Seats.{Each}

module _ {W : Type 0} (got : W → List ℕ) (over : W → Bool) where
  -- the numbers that these seats got
  abbrev pub got_by : List (SeatView W) → List ℕ
  got_by = flat_map (λ v. got v.knows)

  -- how many seats a seat counts for that may still draw
  abbrev pub still_of : SeatView W → ℕ
  still_of v = if over v.knows then 0 else v.seats

  -- What holds of the counter and of the seats, where the numbers from the first up to but not including n are drawn by so many seats in all
  pub record IsDrawn (first n all counter : ℕ) (views : List (SeatView W)) : Type 0 where
    -- the numbers that they got are those from the first up to but not including the lesser of the counter and n, each once
    pub each_once : IsPermutation (got_by views) (numbers first (min counter n))
    -- the counter began at the first number
    pub begun : first ≤ counter
    -- where a seat is over, the counter is above n
    pub ended : Each (λ v. over v.knows ≡ true → n < counter) views
    -- The seats that aren't over, with those that may still be split from them, and by how much the counter exceeds n, are together no more than all. So the counter never wraps
    pub bounded : sum_by still_of views + (counter - n) ≤ all
