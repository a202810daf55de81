-- The rule of the claims, which holds between any two steps, and what each step changes. The table has one word, the counter, and no slot.
use Rattle.std.specs.Prelude.{◌≡◌, ℕ, ◌^◌, ◌<◌, ◌≤◌, Bool, true, false, ◌||◌, List, [], ◌∷◌, ◌++◌, IsPermutation, min, nat_eq, nat_lt, if◌then◌else◌}
use Rattle.std.specs.List.{IsDistinct}
use Rattle.atomic_table.specs.Table.{State, Me, Step}
use Rattle.table_seats.specs.declared.seat_view.SeatView.{SeatView}
use Rattle.table_seats.specs.Numbers.{numbers}
use Rattle.table_seats.specs.Seats.{IsSeating, first_of, knowing}
use Rattle.table_seats.specs.Draws.{IsDrawn}
use Rattle.root_claims.specs.declared.rule.Bounds.{Bounds}
use Rattle.root_claims.specs.declared.rule.View.{View}

-- a seat of these claims that has got no number
abbrev pub fresh : Bounds → Bool → View
fresh about over = record { of = about; got = []; over = over; alike = true }

-- what a seat knows that was just split from one: whose it is, and whether it is over
abbrev pub given : View → View
given v = fresh v.of v.over

-- what a seat knows into which another was joined, and whether both drew from one number on
abbrev pub both : View → View → View
both v w = record { of = v.of; got = v.got ++ w.got; over = v.over || w.over; alike = nat_eq v.of.first w.of.first }

-- what a seat knows that was joined into another
abbrev pub nothing : View
nothing = fresh (record { first = 0; n = 0; seats = 0 }) false

abbrev pub got_of : View → List ℕ
got_of v = v.got

abbrev pub is_over : View → Bool
is_over v = v.over

-- What holds of the counter and of the seats
pub record IsLawful (about : Bounds) (counter : ℕ) (seats : List (SeatView View)) : Type 0 where
  -- the seats, with those that may still be split from them, are as many as the claims have, and all draw the same numbers
  pub seating : IsSeating about.seats (λ v. (v.of ≡ about) × (v.alike ≡ true)) nothing seats
  -- what they drew are the numbers from the first up to but not including the lesser of the counter and n, each once
  pub drawn : IsDrawn got_of is_over about.first about.n about.seats counter seats
  pub within : (about.first ≤ about.n) × (about.n ≤ 2 ^ 30)

-- the counter, and what each seat knows
abbrev pub Table : Type 0
Table = State (Unit {0}) (SeatView View)

abbrev pub Sitter : Type 0
Sitter = Me (Unit {0}) (SeatView View)

-- wherever the numbers begin that are drawn now
abbrev pub Holds : Bounds → Table → Type 0
Holds about s = (counter : ℕ) × (s.words ≡ counter ∷ []) × (now : Bounds) × (now.n ≡ about.n) × (now.seats ≡ about.seats) × IsLawful now counter s.views

-- the first seat
abbrev pub first_view : Bounds → SeatView View
first_view about = first_of about.seats (fresh about false)

-- what a seat knows that drew a number: it gets a number below n, and by any other it is over
abbrev pub with_drawn : View → ℕ → View
with_drawn v number = if nat_lt number v.of.n then record v { got = v.got ++ number ∷ [] } else record v { over = true }

abbrev pub drew : SeatView View → ℕ → SeatView View
drew v number = knowing v (with_drawn v.knows number)

-- what a draw tells: the number is none before the first, and the seat got no number twice
abbrev pub Drew : Step (Unit {0}) → Sitter → ℕ → Sitter → Type 0
Drew step me number after = (after.0 ≡ drew me.0 number) × (after.1 ≡ me.1) × (me.0.knows.of.first ≤ number) × IsDistinct nat_eq after.0.knows.got

-- what a seat knows that settled what was drawn, where the counter stands at a number: it draws from there on
abbrev pub with_settled : View → ℕ → View
with_settled v number = record { of = record { first = min number v.of.n; n = v.of.n; seats = v.of.seats }; got = []; over = v.over; alike = true }

abbrev pub settled : SeatView View → ℕ → SeatView View
settled v number = knowing v (with_settled v.knows number)

-- what settling tells: the seat got all numbers from the first up to the lesser of the counter and n, each once, and the counter is above n where the seat is over
abbrev pub Settled : Step (Unit {0}) → Sitter → ℕ → Sitter → Type 0
Settled step me number after = (after.0 ≡ settled me.0 number) × (after.1 ≡ me.1) × (me.0.knows.of.first ≤ min number me.0.knows.of.n)
    × IsPermutation me.0.knows.got (numbers me.0.knows.of.first (min number me.0.knows.of.n)) × (me.0.knows.over ≡ true → me.0.knows.of.n < number)

-- a look shows that the seat got no number twice, and that what was joined into it drew from the same number on
abbrev pub GotOnce : View → Type 0
GotOnce v = IsDistinct nat_eq v.got × (v.alike ≡ true)
