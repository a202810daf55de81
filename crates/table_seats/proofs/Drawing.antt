-- Each kind of step keeps what holds of numbers that seats draw.
use Rattle.std.proofs.Common.{◌≡◌, ◌≢◌, ℕ, ◌+◌, ◌-◌, ◌<◌, ◌≤◌, Bool, true, false, true≢false, ◌||◌, List, [], ◌∷◌, ◌++◌, IsPermutation, min, set, refl, sym, ap, ◌∙◌, arith}
use Rattle.std.specs.Prelude.{nat_eq, if◌then◌else◌}
use Rattle.std.specs.List.{IsDistinct, range_with_len}
use mathlib.Core.Option.{some}
use lib.ListN.{get_elem?}
use Rattle.table_seats.specs.declared.seat_view.SeatView.{SeatView}
use Rattle.table_seats.specs.Numbers.{numbers}
use Rattle.table_seats.specs.Seats.{kept_of, given_of, joined, spent}
use Rattle.table_seats.specs.Draws.{IsDrawn, got_by, still_of}
use Rattle.table_seats.proofs.Counting.{times, times-push, times-append, times-permutation, permutation-times, numbers-push, times-numbers, IsDistinct-times}
use Rattle.table_seats.proofs.EachSeat.{EachAt, Each-one, Each-set, Each-split, Each-join, sum_by-changed, sum_by-split, sum_by-join, times-changed, times-split, times-join, times-last, times-one}

module _ {W : Type 0} (got : W → List ℕ) (over : W → Bool) (first n all : ℕ) where
  abbrev Ended : ℕ → SeatView W → Type 0
  Ended counter v = over v.knows ≡ true → n < counter

  abbrev got_of : SeatView W → List ℕ
  got_of v = got v.knows

  still-on : (v : SeatView W) → over v.knows ≡ false → still_of got over v ≡ v.seats
  still-on v on = ap (λ b. if b then 0 else v.seats) on

  still-over : (v : SeatView W) → over v.knows ≡ true → still_of got over v ≡ 0
  still-over v is = ap (λ b. if b then 0 else v.seats) is

  -- the first seat has drawn nothing
  pub starts : (v : SeatView W) → first ≤ n → v.seats ≡ all → got v.knows ≡ [] → over v.knows ≡ false → IsDrawn got over first n all first (v ∷ [])
  starts v ordered is none on = record {
    each_once =
        permutation-times _ _ (λ x.
        let a = ap (times x) none in
        let l : min first n ≡ first = omega (arith, ordered) in
        let b = ap (λ k. times x (numbers first k)) l in
        times-first x a b);
    begun = omega arith;
    ended = Each-one (Ended first) v (λ ends. absurd (true≢false (sym ends ∙ on)));
    bounded = let s = still-on v on in omega (arith, s, is, ordered);
  }
    where
      times-none : (x : ℕ) → times x (numbers first first) ≡ 0
      times-none x = let e : first - first ≡ 0 = omega arith in ap (λ k. times x (range_with_len first k)) e

      times-first : (x : ℕ) → times x (got v.knows) ≡ 0 → times x (numbers first (min first n)) ≡ times x (numbers first first) → times x (got_by got over (v ∷ [])) ≡ times x (numbers first (min first n))
      times-first x a b =
          let p = times-append x (got v.knows) [] in
          let none_left : times x [] ≡ 0 = refl in
          let nothing = times-none x in
          omega (arith, a, b, p, none_left, nothing)

  module _ (counter : ℕ) (views : List (SeatView W)) (id : ℕ) (v : SeatView W) (law : IsDrawn got over first n all counter views) (at : get_elem? views id ≡ some v) where
    -- the counter is not far beyond n
    pub counter_most : counter ≤ n + all
    counter_most = omega (arith, law.bounded)

    pub over_here : over v.knows ≡ true → n < counter
    over_here = law.ended id v at

    -- a seat got no number twice
    pub got_once : IsDistinct nat_eq (got v.knows)
    got_once = IsDistinct-times (got v.knows) (λ x. got_few x)
      where
        got_few : (x : ℕ) → times x (got v.knows) ≤ 1
        got_few x =
            let o = times-one got_of x views id v at in
            let e = times-permutation x _ _ law.each_once in
            let m = times-numbers x first (min counter n) in
            omega (arith, o, e, m)

    ended_later : EachAt (Ended (counter + 1)) views
    ended_later j u there is = let h = law.ended j u there is in omega (arith, h)

    -- a number below n is drawn
    pub draws_number : (w : SeatView W) → w.seats ≡ v.seats → over v.knows ≡ false → over w.knows ≡ false → got w.knows ≡ got v.knows ++ counter ∷ [] → counter < n → IsDrawn got over first n all (counter + 1) (set views id w)
    draws_number w seats on still_on gets below = record {
      each_once = permutation-times _ _ (λ x.
          let c = times-changed got_of x views id v w at in
          let g = ap (times x) gets ∙ times-push x (got v.knows) counter in
          let old : min counter n ≡ counter = omega (arith, below) in
          let new : min (counter + 1) n ≡ counter + 1 = omega (arith, below) in
          let e = times-permutation x _ _ law.each_once ∙ ap (λ k. times x (numbers first k)) old in
          let a = ap (λ k. times x (numbers first k)) new ∙ ap (times x) (numbers-push first counter law.begun) ∙ times-push x (numbers first counter) counter in
          omega (arith, c, g, e, a));
      begun = omega (arith, law.begun);
      ended = Each-set (Ended (counter + 1)) views id w ended_later (λ ends. absurd (true≢false (sym ends ∙ still_on)));
      bounded =
          let c = sum_by-changed (still_of got over) views id v w at in
          let a = still-on v on in
          let b = still-on w still_on in
          omega (arith, c, a, b, seats, below, law.bounded);
    }

    -- a number from n on is drawn
    pub draws_end : (w : SeatView W) → 1 ≤ v.seats → over v.knows ≡ false → over w.knows ≡ true → got w.knows ≡ got v.knows → n ≤ counter → IsDrawn got over first n all (counter + 1) (set views id w)
    draws_end w live on ends gets above = record {
      each_once = permutation-times _ _ (λ x.
          let c = times-changed got_of x views id v w at in
          let g = ap (times x) gets in
          let old : min counter n ≡ n = omega (arith, above) in
          let new : min (counter + 1) n ≡ n = omega (arith, above) in
          let e = times-permutation x _ _ law.each_once ∙ ap (λ k. times x (numbers first k)) (old ∙ sym new) in
          omega (arith, c, g, e));
      begun = omega (arith, law.begun);
      ended = Each-set (Ended (counter + 1)) views id w ended_later (λ _. omega (arith, above));
      bounded =
          let c = sum_by-changed (still_of got over) views id v w at in
          let a = still-on v on in
          let b = still-over w ends in
          omega (arith, c, a, b, live, above, law.bounded);
    }

    -- a seat comes to know something else, and nothing that concerns draws
    pub learns : (w : SeatView W) → w.seats ≡ v.seats → got w.knows ≡ got v.knows → over w.knows ≡ over v.knows → IsDrawn got over first n all counter (set views id w)
    learns w seats gets same = record {
      each_once = permutation-times _ _ (λ x.
          let c = times-changed got_of x views id v w at in
          let g = ap (times x) gets in
          let e = times-permutation x _ _ law.each_once in
          omega (arith, c, g, e));
      begun = law.begun;
      ended = Each-set (Ended counter) views id w law.ended (λ ends. over_here (sym same ∙ ends));
      bounded =
          let c = sum_by-changed (still_of got over) views id v w at in
          let a : still_of got over w ≡ still_of got over v = (λ k. if same k then 0 else seats k) in
          omega (arith, c, a, law.bounded);
    }

    -- another seat is split from it
    pub splits : (given : W → W) (give : ℕ) → give + 1 < v.seats → got (given v.knows) ≡ [] → over (given v.knows) ≡ over v.knows → IsDrawn got over first n all counter (set views id (kept_of give v) ++ given_of given give v ∷ [])
    splits given give enough none same = record {
      each_once = permutation-times _ _ (λ x.
          let c = times-split got_of x views id v (kept_of give v) (given_of given give v) at in
          let g = ap (times x) none in
          let nil : times x [] ≡ 0 = refl in
          let e = times-permutation x _ _ law.each_once in
          omega (arith, c, g, nil, e));
      begun = law.begun;
      ended = Each-split (Ended counter) views id (kept_of give v) (given_of given give v) law.ended over_here (λ ends. over_here (sym same ∙ ends));
      bounded =
          let c = sum_by-split (still_of got over) views id v (kept_of give v) (given_of given give v) at in
          let p = still-parted (over v.knows) in
          let s : still_of got over (given_of given give v) ≡ (if over v.knows then 0 else give + 1) = ap (λ b. if b then 0 else give + 1) same in
          omega (arith, c, p, s, law.bounded);
    }
      where
        still-parted : (b : Bool) → (if b then 0 else v.seats - (give + 1)) + (if b then 0 else give + 1) ≤ (if b then 0 else v.seats)
        still-parted true = omega arith
        still-parted false = omega (arith, enough)

    -- another seat is joined into it
    pub joins : (both : W → W → W) (nothing : W) (other : ℕ) (u : SeatView W) → other ≢ id → get_elem? views other ≡ some u → got (both v.knows u.knows) ≡ got v.knows ++ got u.knows → over (both v.knows u.knows) ≡ (over v.knows || over u.knows)
        → got nothing ≡ [] → over nothing ≡ false → IsDrawn got over first n all counter (set (set views id (joined both v u)) other (spent nothing))
    joins both nothing other u apart there gets ends none on = record {
      each_once = permutation-times _ _ (λ x.
          let c = times-join got_of x views id other v u (joined both v u) (spent nothing) apart at there in
          let g = ap (times x) gets ∙ times-append x (got v.knows) (got u.knows) in
          let z = ap (times x) none in
          let nil : times x [] ≡ 0 = refl in
          let e = times-permutation x _ _ law.each_once in
          omega (arith, c, g, z, nil, e));
      begun = law.begun;
      ended = Each-join (Ended counter) views id other (joined both v u) (spent nothing) law.ended
          (λ is. either_over (over v.knows) (over u.knows) over_here (law.ended other u there) (sym ends ∙ is))
          (λ is. absurd (true≢false (sym is ∙ on)));
      bounded =
          let c = sum_by-join (still_of got over) views id other v u (joined both v u) (spent nothing) apart at there in
          let p = still-joined (over v.knows) (over u.knows) in
          let s : still_of got over (joined both v u) ≡ (if over v.knows || over u.knows then 0 else v.seats + u.seats) = ap (λ b. if b then 0 else v.seats + u.seats) ends in
          let z : still_of got over (spent nothing) ≡ 0 = ap (λ b. if b then 0 else 0) on in
          omega (arith, c, p, s, z, law.bounded);
    }
      where
        still-joined : (a b : Bool) → (if a || b then 0 else v.seats + u.seats) ≤ (if a then 0 else v.seats) + (if b then 0 else u.seats)
        still-joined true b = omega arith
        still-joined false true = omega arith
        still-joined false false = omega arith

        either_over : (a b : Bool) → (a ≡ true → n < counter) → (b ≡ true → n < counter) → (a || b) ≡ true → n < counter
        either_over true b p q t = p refl
        either_over false b p q t = q t

    -- where the others know nothing, the seat got all numbers
    pub last_got : ((j : ℕ) (w : SeatView W) → j ≢ id → get_elem? views j ≡ some w → got w.knows ≡ []) → IsPermutation (got v.knows) (numbers first (min counter n))
    last_got others = permutation-times _ _ (λ x. sym (times-last got_of x views id v at others) ∙ times-permutation x _ _ law.each_once)
