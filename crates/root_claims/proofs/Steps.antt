-- Each step keeps the rule.
use Rattle.std.proofs.Common.{◌≡◌, ◌≢◌, ⊎_elim, ℕ, ◌+◌, ◌-◌, ◌^◌, ◌<◌, ◌≤◌, Bool, true, false, List, [], ◌∷◌, ◌++◌, IsPermutation, min, set, refl, sym, ap, ◌∙◌, subst, arith}
use Rattle.std.specs.List.{IsDistinct, range_with_len}
use Rattle.std.specs.Prelude.{nat_eq, nat_lt, if◌then◌else◌}
use Rattle.std.proofs.lemmas.Bool.{eq-eqb, lt-ltb, le-ltb}
use mathlib.Core.Logic.{dite}
use native.Mathlib.Decide.{dec_lt}
use mathlib.Core.Option.{some}
use lib.ListN.{get_elem?}
use Rattle.atomic_table.proofs.Lists.{at_set, set_here}
use Rattle.table_seats.specs.declared.seat_view.SeatView.{SeatView}
use Rattle.table_seats.specs.Numbers.{numbers}
use Rattle.table_seats.specs.Seats.{IsSeating, knowing, kept_of, given_of, joined, spent}
use Rattle.table_seats.specs.Draws.{IsDrawn}
use Rattle.table_seats.proofs.Counting.{times, permutation-times}
use Rattle.table_seats.proofs.EachSeat.{within, Each-set, sum_by-changed, times-changed, times-last, two_within}
use Rattle.table_seats.proofs.Seating as seating
use Rattle.table_seats.proofs.Drawing as drawing
use Rattle.root_claims.specs.declared.rule.Bounds.{Bounds}
use Rattle.root_claims.specs.declared.rule.View.{View}
use Rattle.root_claims.specs.Lawful.{IsLawful, first_view, fresh, with_drawn, drew, settled, with_settled, given, both, nothing, got_of, is_over}

abbrev Fixed : Bounds → View → Type 0
Fixed about v = (v.of ≡ about) × (v.alike ≡ true)

pub begins : (about : Bounds) → about.first ≤ about.n → about.n ≤ 2 ^ 30 → 1 ≤ about.seats → about.seats ≤ 64 → IsLawful about about.first (first_view about ∷ [])
begins about ordered n seated few = record {
  seating = seating.begins about.seats (Fixed about) nothing (fresh about false) seated few (refl, refl);
  drawn = drawing.starts got_of is_over about.first about.n about.seats (first_view about) ordered refl refl refl;
  within = (ordered, n);
}

module _ (about : Bounds) (counter : ℕ) (views : List (SeatView View)) (id : ℕ) (v : SeatView View) (lawful : IsLawful about counter views) (at : get_elem? views id ≡ some v) where
  -- a seat is one of the seats
  pub is_one : v.seats ≤ 64
  is_one = seating.is_one about.seats (Fixed about) nothing views id v lawful.seating at

  -- it got no number twice
  pub got_once : IsDistinct nat_eq v.knows.got
  got_once = drawing.got_once got_of is_over about.first about.n about.seats counter views id v lawful.drawn at

  pub counter_fits : counter + 1 < 2 ^ 64
  counter_fits =
      let most = drawing.counter_most got_of is_over about.first about.n about.seats counter views id v lawful.drawn at in
      omega (arith, most, lawful.within, lawful.seating.few)

  pub over_here : v.knows.over ≡ true → about.n < counter
  over_here = drawing.over_here got_of is_over about.first about.n about.seats counter views id v lawful.drawn at

  module _ (live : 1 ≤ v.seats) where
    is_fixed : Fixed about v.knows
    is_fixed = seating.fixed_here about.seats (Fixed about) nothing views id v lawful.seating at live

    pub fixed_here : v.knows.of ≡ about
    fixed_here = is_fixed.0

    -- what was joined into it drew the same numbers
    pub alike_here : v.knows.alike ≡ true
    alike_here = is_fixed.1

    learns : (w : View) → w.of ≡ v.knows.of → w.alike ≡ v.knows.alike → IsDrawn got_of is_over about.first about.n about.seats (counter + 1) (set views id (knowing v w)) → IsLawful about (counter + 1) (set views id (knowing v w))
    learns w same also drawn = record {
      seating = seating.learns about.seats (Fixed about) nothing views id v lawful.seating at w live (same ∙ fixed_here, also ∙ alike_here);
      drawn = drawn;
      within = lawful.within;
    }

    -- a number is drawn
    pub draws : v.knows.over ≡ false → IsLawful about (counter + 1) (set views id (drew v counter))
    draws on =
        let n : v.knows.of.n ≡ about.n = ap (λ (b : Bounds). b.n) fixed_here in
        let becomes : Bool → View = λ b. if b then record v.knows { got = v.knows.got ++ counter ∷ [] } else record v.knows { over = true } in
        dite (dec_lt counter about.n)
        (λ below.
        let yes : nat_lt counter v.knows.of.n ≡ true = lt-ltb counter v.knows.of.n (omega (arith, n, below)) in
        subst (λ (b : Bool). IsLawful about (counter + 1) (set views id (knowing v (becomes b)))) (sym yes)
        (learns (becomes true) refl refl (drawing.draws_number got_of is_over about.first about.n about.seats counter views id v lawful.drawn at (knowing v (becomes true)) refl on on refl below)))
        (λ above.
        let no : nat_lt counter v.knows.of.n ≡ false = le-ltb counter v.knows.of.n (omega (arith, n, above)) in
        subst (λ (b : Bool). IsLawful about (counter + 1) (set views id (knowing v (becomes b)))) (sym no)
        (learns (becomes false) refl refl (drawing.draws_end got_of is_over about.first about.n about.seats counter views id v lawful.drawn at (knowing v (becomes false)) live on refl refl (omega (arith, above)))))

    pub draws_once : v.knows.over ≡ false → IsDistinct nat_eq (with_drawn v.knows counter).got
    draws_once on = drawing.got_once got_of is_over about.first about.n about.seats (counter + 1) (set views id (drew v counter)) id (drew v counter) (draws on).drawn (set_here views id (drew v counter) (within views id v at))

    -- another seat is split from it
    pub splits : (give : ℕ) → give + 1 < v.seats → IsLawful about counter (set views id (kept_of give v) ++ given_of given give v ∷ [])
    splits give enough = record {
      seating = seating.splits about.seats (Fixed about) nothing views id v lawful.seating at given give enough is_fixed (fixed_here, refl);
      drawn = drawing.splits got_of is_over about.first about.n about.seats counter views id v lawful.drawn at given give enough refl refl;
      within = lawful.within;
    }

    -- another seat is joined into it
    pub joins : (other : ℕ) (u : SeatView View) → other ≢ id → get_elem? views other ≡ some u → 1 ≤ u.seats → IsLawful about counter (set (set views id (joined both v u)) other (spent nothing))
    joins other u apart there too = record {
      seating = seating.joins about.seats (Fixed about) nothing views id v lawful.seating at both other u apart there live (fixed_here, eq-eqb v.knows.of.first u.knows.of.first (ap (λ (b : Bounds). b.first) (fixed_here ∙ sym (seating.fixed_here about.seats (Fixed about) nothing views other u lawful.seating there too).0)));
      drawn = drawing.joins got_of is_over about.first about.n about.seats counter views id v lawful.drawn at both nothing other u apart there refl refl refl refl;
      within = lawful.within;
    }

    -- the last seat settles what was drawn
    module _ (all : v.seats ≡ about.seats) where
      -- the others count for none
      alone : (j : ℕ) (u : SeatView View) → j ≢ id → get_elem? views j ≡ some u → u.seats ≡ 0
      alone j u apart there =
          let two = two_within (λ (w : SeatView View). w.seats) views id j v u at there apart in
          omega (arith, two, all, lawful.seating.counted)

      got_by_others : (j : ℕ) (u : SeatView View) → j ≢ id → get_elem? views j ≡ some u → u.knows.got ≡ []
      got_by_others j u apart there = ap got_of (seating.others_empty about.seats (Fixed about) nothing views id v lawful.seating at all j u apart there)

      now : Bounds
      now = record { first = min counter about.n; n = about.n; seats = about.seats }

      fixed_anew : Fixed now (with_settled v.knows counter)
      unfolding now
      fixed_anew = (ap (λ (b : Bounds). record { first = min counter b.n; n = b.n; seats = b.seats }) fixed_here, refl)

      seated : IsSeating about.seats (Fixed now) nothing (set views id (settled v counter))
      unfolding now
      seated = record {
        counted = let c = sum_by-changed (λ (w : SeatView View). w.seats) views id v (settled v counter) at in omega (arith, c, lawful.seating.counted);
        few = lawful.seating.few;
        fixed = λ j u there some_seat.
            ⊎_elim (λ t. subst (λ (w : SeatView View). Fixed now w.knows) t.1 fixed_anew) (λ t. let none = alone j u t.0 t.1 in absurd (omega (arith, none, some_seat))) (at_set views id j (settled v counter) u there);
        emptied = Each-set (λ (w : SeatView View). w.seats ≡ 0 → w.knows ≡ nothing) views id (settled v counter) lawful.seating.emptied (λ none. absurd (omega (arith, none, live)));
      }

      times-none : (x k : ℕ) → times x (numbers k k) ≡ 0
      times-none x k = let e : k - k ≡ 0 = omega arith in ap (λ m. times x (range_with_len k m)) e

      drawn : IsDrawn got_of is_over (min counter about.n) about.n about.seats counter (set views id (settled v counter))
      drawn = record {
        each_once =
            permutation-times _ _ (λ x.
            let c = times-changed (λ (w : SeatView View). w.knows.got) x views id v (settled v counter) at in
            let l = times-last (λ (w : SeatView View). w.knows.got) x views id v at got_by_others in
            let none : times x [] ≡ 0 = refl in
            let nothing_there = times-none x (min counter about.n) in
            omega (arith, c, l, none, nothing_there));
        begun = omega arith;
        ended = Each-set (λ (w : SeatView View). w.knows.over ≡ true → about.n < counter) views id (settled v counter) lawful.drawn.ended (λ ends. over_here ends);
        bounded = let c = sum_by-changed (λ (w : SeatView View). if w.knows.over then 0 else w.seats) views id v (settled v counter) at in omega (arith, c, lawful.drawn.bounded);
      }

      pub settles : IsLawful (record { first = min counter about.n; n = about.n; seats = about.seats }) counter (set views id (settled v counter))
      unfolding now
      settles = record { seating = seated; drawn = drawn; within = (omega arith, lawful.within.1) }

  -- the last seat got all numbers
  pub last_got : v.seats ≡ about.seats → IsPermutation v.knows.got (numbers about.first (min counter about.n))
  last_got all = drawing.last_got got_of is_over about.first about.n about.seats counter views id v lawful.drawn at
      (λ j w apart there. ap got_of (seating.others_empty about.seats (Fixed about) nothing views id v lawful.seating at all j w apart there))
