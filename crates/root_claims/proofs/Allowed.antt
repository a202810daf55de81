-- Each call's step is allowed: whatever the table is at that moment, it keeps the rule and tells what it should.
use Rattle.std.proofs.Common.{◌≡◌, ◌≢◌, ⊎_elim, ℕ, ◌+◌, ◌%◌, ◌^◌, ◌<◌, ◌≤◌, true, false, List, [], ◌∷◌, IsPermutation, min, set, refl, sym, ap, ◌∙◌, subst, arith}
use Rattle.std.specs.Prelude.{slice_index, slice_set}
use mathlib.Core.Option.{some, none, some-injective}
use lib.ListN.{get_elem?}
use Rattle.atomic_table.specs.Table.{Act, keeps, step, Valid, carried_after, Allows, Splits, Joins, Final, Seen}
use Rattle.atomic_table.proofs.Lists.{at_set, set_again}
use Rattle.table_seats.specs.declared.seat_view.SeatView.{SeatView}
use Rattle.table_seats.specs.Numbers.{numbers}
use Rattle.table_seats.specs.Seats.{kept_of, given_of, joined, spent, looked}
use Rattle.root_claims.specs.declared.rule.Bounds.{Bounds}
use Rattle.root_claims.specs.declared.rule.View.{View}
use Rattle.root_claims.specs.Lawful.{Table, Sitter, IsLawful, Holds, drew, Drew, settled, Settled, GotOnce, given, both, nothing}
use Rattle.root_claims.proofs.Steps.{fixed_here, alike_here, counter_fits, is_one, got_once, draws, draws_once, settles, splits, joins, last_got, over_here}

-- the word becomes f of what it was
abbrev Conforms : Bounds → Table → ℕ → Sitter → (ℕ → ℕ) → (ℕ → Sitter → Type 0) → List ℕ → Type 0
Conforms about s id me f tells words = (w : SeatView View) × (a : Act (Unit {0})) × Valid s.homes me.1 a
    × ((counter : ℕ) × (slice_set words 0 (f (slice_index words 0)) ≡ counter ∷ []) × (now : Bounds) × (now.n ≡ about.n) × (now.seats ≡ about.seats) × IsLawful now counter (set s.views id w))
    × tells (slice_index words 0) (w, carried_after me.1 a)

module _ (about : Bounds) (slots id : ℕ) (me : Sitter) (live : 1 ≤ me.0.seats) where
  module _ (s : Table) (counter : ℕ) (now : Bounds) (n : now.n ≡ about.n) (seats : now.seats ≡ about.seats) (law : IsLawful now counter s.views) (at : get_elem? s.views id ≡ some me.0) where
    of_now : me.0.knows.of ≡ now
    of_now = fixed_here now counter s.views id me.0 law at live

    draw_goes : me.0.knows.over ≡ false → Conforms about s id me (λ n. (n + 1) % 2 ^ 64) (Drew (step slots 0 1 0 none) me) (counter ∷ [])
    draw_goes on =
        let first : me.0.knows.of.first ≡ now.first = ap (λ (b : Bounds). b.first) of_now in
        let fits : counter + 1 < 2 ^ 64 = counter_fits now counter s.views id me.0 law at in
        let next : (counter + 1) % 2 ^ 64 ≡ counter + 1 = omega (arith, fits) in
        let begun : now.first ≤ counter = law.drawn.begun in
        (drew me.0 counter, keeps, tt, (counter + 1, ap (λ k. k ∷ []) next, now, n, seats, draws now counter s.views id me.0 law at live on), (refl, refl, omega (arith, first, begun), draws_once now counter s.views id me.0 law at live on))

    settle_goes : me.0.seats ≡ about.seats → Conforms about s id me (λ n. n) (Settled (step slots 0 0 0 none) me) (counter ∷ [])
    settle_goes last =
        let all : me.0.seats ≡ now.seats = last ∙ sym seats in
        let begun : now.first ≤ min counter now.n = omega (arith, law.drawn.begun, law.within.0) in (
          settled me.0 counter,
          keeps,
          tt,
          (counter, refl, record { first = min counter now.n; n = now.n; seats = now.seats }, n, seats, settles now counter s.views id me.0 law at live all),
          (
            refl,
            refl,
            subst (λ (b : Bounds). b.first ≤ min counter b.n) (sym of_now) begun,
            subst (λ (b : Bounds). IsPermutation me.0.knows.got (numbers b.first (min counter b.n))) (sym of_now) (last_got now counter s.views id me.0 law at all),
            λ ends. subst (λ (b : Bounds). b.n < counter) (sym of_now) (over_here now counter s.views id me.0 law at ends),
          ),
        )

  pub draws_one : me.0.knows.over ≡ false → Allows (Holds about) slots id me 0 (λ n. (n + 1) % 2 ^ 64) (Drew (step slots 0 1 0 none) me)
  draws_one on s h _ at _ = subst (Conforms about s id me (λ n. (n + 1) % 2 ^ 64) (Drew (step slots 0 1 0 none) me)) (sym h.1) (draw_goes s h.0 h.2 h.3 h.4 h.5 at on)

  pub settles_all : me.0.seats ≡ about.seats → Allows (Holds about) slots id me 0 (λ n. n) (Settled (step slots 0 0 0 none) me)
  settles_all last s h _ at _ = subst (Conforms about s id me (λ n. n) (Settled (step slots 0 0 0 none) me)) (sym h.1) (settle_goes s h.0 h.2 h.3 h.4 h.5 at last)

  pub looks : Allows (Holds about) slots id me 0 (λ n. n) (looked GotOnce (step slots 0 0 0 none) me)
  looks s h _ at _ = subst (Conforms about s id me (λ n. n) (looked GotOnce (step slots 0 0 0 none) me)) (sym h.1)
      (me.0, keeps, tt, (h.0, refl, h.2, h.3, h.4, subst (IsLawful h.2 h.0) (sym (set_again s.views id me.0 at)) h.5), (refl, is_one h.2 h.0 s.views id me.0 h.5 at, (got_once h.2 h.0 s.views id me.0 h.5 at, alike_here h.2 h.0 s.views id me.0 h.5 at live)))

module _ (about : Bounds) (id : ℕ) (v : SeatView View) where
  pub splits_off : (give : ℕ) → give + 1 < v.seats → Splits (Holds about) id v (kept_of give v) (given_of given give v)
  splits_off give enough s h at = (h.0, h.1, h.2, h.3, h.4, splits h.2 h.0 s.views id v h.5 at (omega (arith, enough)) give enough)

  pub joins_in : (other : ℕ) (u : SeatView View) → 1 ≤ v.seats → 1 ≤ u.seats → Joins (Holds about) id v other u (joined both v u) (spent nothing)
  joins_in other u live too s h at apart there =
      let before : get_elem? s.views other ≡ some u = ⊎_elim (λ (t : (other ≡ id) × (joined both v u ≡ u)). absurd (apart t.0)) (λ (t : (other ≢ id) × (get_elem? s.views other ≡ some u)). t.1) (at_set s.views id other (joined both v u) u there) in
      (h.0, h.1, h.2, h.3, h.4, joins h.2 h.0 s.views id v h.5 at live other u apart before too)

  -- the last seat got all numbers up to the last state of the counter
  pub closes : (words : List ℕ) (slots : List (Unit {0})) (next : ℕ) → 1 ≤ v.seats → v.seats ≡ about.seats → Final (Seen (Holds about) id v) words slots → get_elem? words 0 ≡ some next
      → (v.knows.of.first ≤ min next v.knows.of.n) × IsPermutation v.knows.got (numbers v.knows.of.first (min next v.knows.of.n)) × (v.knows.over ≡ true → v.knows.of.n < next)
  closes words slots next live all final at =
      let s = final.0 in
      let h = final.1.0 in
      let here = final.1.1 in
      let is : h.0 ≡ next = some-injective h.0 next (ap (λ ws. get_elem? ws 0) (sym h.1 ∙ final.2) ∙ at) in
      let now = h.2 in
      let law = h.5 in
      let of_now : v.knows.of ≡ now = fixed_here now h.0 s.views id v law here live in
      let begun : now.first ≤ min h.0 now.n = omega (arith, law.drawn.begun, law.within.0) in
      subst (λ k. (v.knows.of.first ≤ min k v.knows.of.n) × IsPermutation v.knows.got (numbers v.knows.of.first (min k v.knows.of.n)) × (v.knows.over ≡ true → v.knows.of.n < k)) is (
        subst (λ (b : Bounds). b.first ≤ min h.0 b.n) (sym of_now) begun,
        subst (λ (b : Bounds). IsPermutation v.knows.got (numbers b.first (min h.0 b.n))) (sym of_now) (last_got now h.0 s.views id v law here (all ∙ sym h.4)),
        λ ends. subst (λ (b : Bounds). b.n < h.0) (sym of_now) (over_here now h.0 s.views id v law here ends),
      )
