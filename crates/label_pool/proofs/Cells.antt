-- A cell that a seat has at hand stands in no chain, and is at no other's hand. A chain has no more cells than there are.
use Rattle.std.proofs.Common.{◌≡◌, ◌≢◌, ℕ, ◌+◌, ◌-◌, ◌≤◌, Bool, true, false, cond, eq-eqb, eqb-true, List, [], ◌∷◌, ◌++◌, All, IsPermutation, length, refl, sym, ap, ◌∙◌, arith}
use Rattle.std.specs.Prelude.{map, filter, nat_eq}
use Rattle.std.specs.List.{flat_map, sum_by}
use Rattle.std.proofs.lemmas.List.{length-append, length-map, map-append}
use Rattle.std.proofs.lemmas.List.FromFn.{length-range_with_len}
use Rattle.std.proofs.lemmas.List.Concat.{flat_map-cons}
use Rattle.std.proofs.lemmas.List.Elements.{All-nil, All-cons}
use Rattle.std.proofs.lemmas.List.Sorted.{IsPermutation-map, length_permutation}
use Rattle.std.proofs.lemmas.List.Sums.{sum_by-cons}
use mathlib.Core.Option.{some}
use lib.ListN.{get_elem?}
use Rattle.table_seats.specs.declared.seat_view.SeatView.{SeatView}
use Rattle.table_seats.proofs.Counting.{times, once, times-cons, times-append, times-flat_map, times-permutation, times-numbers}
use Rattle.table_seats.proofs.EachSeat.{one_within, two_within}
use Rattle.label_pool.specs.declared.rule.Linked.{Linked}
use Rattle.label_pool.specs.declared.rule.Put.{Put}
use Rattle.label_pool.specs.declared.rule.View.{View}
use Rattle.label_pool.specs.Chains.{puts_at}
use Rattle.label_pool.specs.Lawful.{at_hand, got_by}
use Rattle.label_pool.proofs.Blocks.{GotOnce}

-- the numbers of cells
abbrev pub cells_of : List Linked → List ℕ
cells_of = map (λ l. l.cell)

abbrev put_cells : List Put → List ℕ
put_cells = map (λ p. p.linked.cell)

-- the cells that were put at one node are among those that were put
put_at-fewer : (c v : ℕ) (puts : List Put) → times c (cells_of (puts_at puts v)) ≤ times c (put_cells puts)
put_at-fewer c v [] = omega arith
put_at-fewer c v (p ∷ ps) =
    let r = put_at-fewer c v ps in
    let a = times-cons c p.linked.cell (put_cells ps) in
    by_test (nat_eq p.node v) r a
  where
    by_test : (t : Bool) → times c (cells_of (puts_at ps v)) ≤ times c (put_cells ps) → times c (put_cells (p ∷ ps)) ≡ once c p.linked.cell + times c (put_cells ps)
        → times c (cells_of (map (λ q. q.linked) (cond t (p ∷ filter (λ q. nat_eq q.node v) ps) (filter (λ q. nat_eq q.node v) ps)))) ≤ times c (put_cells (p ∷ ps))
    by_test true r a = let b = times-cons c p.linked.cell (cells_of (puts_at ps v)) in omega (arith, r, a, b)
    by_test false r a = omega (arith, r, a)

put_at-shorter : (v : ℕ) (puts : List Put) → length (puts_at puts v) ≤ length puts
put_at-shorter v [] = omega arith
put_at-shorter v (p ∷ ps) = by_test (nat_eq p.node v) (put_at-shorter v ps)
  where
    by_test : (t : Bool) → length (puts_at ps v) ≤ length ps → length (map (λ q. q.linked) (cond t (p ∷ filter (λ q. nat_eq q.node v) ps) (filter (λ q. nat_eq q.node v) ps))) ≤ length (p ∷ ps)
    by_test true r = omega (arith, r)
    by_test false r = omega (arith, r)

-- how often a cell stands among what was put at a node, where a put comes that may be there
abbrev some_at : ℕ → Put → List Put → Bool → ℕ → ℕ
some_at c p ps t w = times c (cells_of (map (λ q. q.linked) (cond t (p ∷ filter (λ q. nat_eq q.node w) ps) (filter (λ q. nat_eq q.node w) ps))))

-- what was put at two nodes is among what was put
two-fewer : (c v u : ℕ) (puts : List Put) → v ≢ u → times c (cells_of (puts_at puts v)) + times c (cells_of (puts_at puts u)) ≤ times c (put_cells puts)
two-fewer c v u [] unlike = omega arith
two-fewer c v u (p ∷ ps) unlike =
    let r = two-fewer c v u ps unlike in
    let a = times-cons c p.linked.cell (put_cells ps) in
    by_tests (nat_eq p.node v) (nat_eq p.node u) (λ one two. unlike (sym (eqb-true p.node v one) ∙ eqb-true p.node u two)) r a
  where
    by_tests : (t s : Bool) → (t ≡ true → s ≡ true → ⊥) → times c (cells_of (puts_at ps v)) + times c (cells_of (puts_at ps u)) ≤ times c (put_cells ps) → times c (put_cells (p ∷ ps)) ≡ once c p.linked.cell + times c (put_cells ps)
        → some_at c p ps t v + some_at c p ps s u ≤ times c (put_cells (p ∷ ps))
    by_tests true true both r a = absurd (both refl refl)
    by_tests true false both r a = let b = times-cons c p.linked.cell (cells_of (puts_at ps v)) in omega (arith, r, a, b)
    by_tests false true both r a = let b = times-cons c p.linked.cell (cells_of (puts_at ps u)) in omega (arith, r, a, b)
    by_tests false false both r a = omega (arith, r, a)

-- sums of two numbers each are no more than the sum of those that are no less
sums-within : {X : Type 0} (g h k : X → ℕ) → ((x : X) → g x + h x ≤ k x) → (xs : List X) → sum_by g xs + sum_by h xs ≤ sum_by k xs
sums-within g h k each [] = let a : sum_by g [] + sum_by h [] ≡ 0 = refl in omega (arith, a)
sums-within g h k each (x ∷ xs) =
    let r = sums-within g h k each xs in
    let here = each x in
    let a = sum_by-cons g x xs in
    let b = sum_by-cons h x xs in
    let c = sum_by-cons k x xs in
    omega (arith, r, here, a, b, c)

times-cells : {X : Type 0} (f : X → List Linked) (c : ℕ) (xs : List X) → times c (cells_of (flat_map f xs)) ≡ sum_by (λ x. times c (cells_of (f x))) xs
times-cells f c [] = refl
times-cells f c (x ∷ xs) =
    let a = ap (λ ls. times c (cells_of ls)) (flat_map-cons f x xs) ∙ ap (times c) (map-append (λ (l : Linked). l.cell) (f x) (flat_map f xs)) ∙ times-append c (cells_of (f x)) (cells_of (flat_map f xs)) in
    let b = sum_by-cons (λ y. times c (cells_of (f y))) x xs in
    let r = times-cells f c xs in
    omega (arith, a, b, r)

length-flat : {X Y : Type 0} (f : X → List Y) (xs : List X) → length (flat_map f xs) ≡ sum_by (λ x. length (f x)) xs
length-flat f [] = refl
length-flat f (x ∷ xs) =
    let a = ap length (flat_map-cons f x xs) ∙ length-append (f x) (flat_map f xs) in
    let b = sum_by-cons (λ y. length (f y)) x xs in
    let r = length-flat f xs in
    omega (arith, a, b, r)

-- a cell that stands nowhere among others is none of them
all-other : (c : ℕ) (ls : List Linked) → times c (cells_of ls) ≡ 0 → All (λ l. c ≢ l.cell) ls
all-other c [] none = All-nil (λ l. c ≢ l.cell)
all-other c (l ∷ ls) none =
    let a = times-cons c l.cell (cells_of ls) in
    All-cons (λ m. c ≢ m.cell) l ls (λ is. let o : once c l.cell ≡ 1 = ap (λ b. cond b 1 0) (eq-eqb l.cell c (sym is)) in absurd (omega (arith, a, o, none))) (all-other c ls (omega (arith, a, none)))

module _ {F : Type 0} (cells : ℕ) (views : List (SeatView (View F))) (got : GotOnce cells views) where
  abbrev hand_of : SeatView (View F) → List ℕ
  hand_of v = at_hand v.knows

  abbrev got_of : SeatView (View F) → List ℕ
  got_of v = got_by v.knows

  got-few : (c : ℕ) → sum_by (λ v. times c (got_of v)) views ≤ 1
  got-few c =
      let a = times-flat_map got_of c views in
      let e = times-permutation c _ _ got.2 in
      let m = times-numbers c 0 got.0 in
      omega (arith, a, e, m)

  -- what a seat got is what it put, what it has at hand, and more
  pub got-parts : (c : ℕ) (seat : SeatView (View F)) → times c (put_cells seat.knows.puts) + times c (hand_of seat) ≤ times c (got_of seat)
  got-parts c seat =
      let a = times-append c (put_cells seat.knows.puts) (hand_of seat ++ seat.knows.spare) in
      let b = times-append c (hand_of seat) seat.knows.spare in
      omega (arith, a, b)

  -- a cell that a seat has at hand stands in no chain
  pub hand-unlinked : (v : ℕ) (chain : List Linked) → IsPermutation (flat_map (λ seat. puts_at seat.knows.puts v) views) chain
      → (id : ℕ) (me : SeatView (View F)) (c : ℕ) → get_elem? views id ≡ some me → 1 ≤ times c (hand_of me) → All (λ l. c ≢ l.cell) chain
  hand-unlinked v chain each_once id me c at held =
      let linked_at : SeatView (View F) → ℕ = λ seat. times c (cells_of (puts_at seat.knows.puts v)) in
      let hand_at : SeatView (View F) → ℕ = λ seat. times c (hand_of seat) in
      let all = got-few c in
      let sums = sums-within linked_at hand_at (λ seat. times c (got_of seat)) (λ seat. let a = got-parts c seat in let b = put_at-fewer c v seat.knows.puts in omega (arith, a, b)) views in
      let here = one_within hand_at views id me at in
      let linked = times-cells (λ (seat : SeatView (View F)). puts_at seat.knows.puts v) c views in
      let same = times-permutation c _ _ (IsPermutation-map (λ (l : Linked). l.cell) _ _ each_once) in
      all-other c chain (omega (arith, all, sums, here, held, linked, same))

  -- and it is at the hand of one seat alone
  pub hand-alone : (id other : ℕ) (me them : SeatView (View F)) (c : ℕ) → other ≢ id → get_elem? views id ≡ some me → get_elem? views other ≡ some them → 1 ≤ times c (hand_of me) → times c (hand_of them) ≡ 0
  hand-alone id other me them c apart at there held =
      let all = got-few c in
      let two = two_within (λ (seat : SeatView (View F)). times c (got_of seat)) views id other me them at there apart in
      let a = got-parts c me in
      let b = got-parts c them in
      omega (arith, all, two, a, b, held)

  -- a chain is no longer than there are cells
  pub chain-most : (v : ℕ) (chain : List Linked) → IsPermutation (flat_map (λ seat. puts_at seat.knows.puts v) views) chain → length chain ≤ cells
  chain-most v chain each_once =
      let nothing : SeatView (View F) → ℕ = λ seat. 0 in
      let a = length-flat (λ (seat : SeatView (View F)). puts_at seat.knows.puts v) views in
      let b = length-flat got_of views in
      let sums = sums-within (λ (seat : SeatView (View F)). length (puts_at seat.knows.puts v)) nothing (λ seat. length (got_of seat))
      (λ seat. let p = put_at-shorter v seat.knows.puts in let l = length-append (put_cells seat.knows.puts) (hand_of seat ++ seat.knows.spare) in let m = length-map seat.knows.puts (λ (q : Put). q.linked.cell) in omega (arith, p, l, m)) views in
      let c = length_permutation _ _ each_once in
      let d = length_permutation _ _ got.2 in
      let e = length-range_with_len 0 (got.0 - 0) in
      omega (arith, a, b, sums, c, d, e, got.1)

  -- no cell stands in the chains of two nodes
  pub chains-apart : (v u : ℕ) (chain other : List Linked) → v ≢ u → IsPermutation (flat_map (λ seat. puts_at seat.knows.puts v) views) chain → IsPermutation (flat_map (λ seat. puts_at seat.knows.puts u) views) other
      → All (λ l. All (λ m. l.cell ≢ m.cell) other) chain
  chains-apart v u chain other unlike here there = each chain (λ c. few c)
    where
      few : (c : ℕ) → times c (cells_of chain) + times c (cells_of other) ≤ 1
      few c =
          let at_v : SeatView (View F) → ℕ = λ seat. times c (cells_of (puts_at seat.knows.puts v)) in
          let at_u : SeatView (View F) → ℕ = λ seat. times c (cells_of (puts_at seat.knows.puts u)) in
          let all = got-few c in
          let sums = sums-within at_v at_u (λ seat. times c (got_of seat)) (λ seat. let a = got-parts c seat in let b = two-fewer c v u seat.knows.puts unlike in omega (arith, a, b)) views in
          let a = times-cells (λ (seat : SeatView (View F)). puts_at seat.knows.puts v) c views in
          let b = times-cells (λ (seat : SeatView (View F)). puts_at seat.knows.puts u) c views in
          let d = times-permutation c _ _ (IsPermutation-map (λ (l : Linked). l.cell) _ _ here) in
          let e = times-permutation c _ _ (IsPermutation-map (λ (l : Linked). l.cell) _ _ there) in
          omega (arith, all, sums, a, b, d, e)

      each : (ls : List Linked) → ((c : ℕ) → times c (cells_of ls) + times c (cells_of other) ≤ 1) → All (λ l. All (λ m. l.cell ≢ m.cell) other) ls
      each [] most = All-nil (λ l. All (λ m. l.cell ≢ m.cell) other)
      each (l ∷ ls) most =
          let a = times-cons l.cell l.cell (cells_of ls) in
          let o : once l.cell l.cell ≡ 1 = ap (λ b. cond b 1 0) (eq-eqb l.cell l.cell refl) in
          All-cons (λ m. All (λ k. m.cell ≢ k.cell) other) l ls (all-other l.cell other (omega (arith, a, o, most l.cell)))
          (each ls (λ c. let b = times-cons c l.cell (cells_of ls) in omega (arith, b, most c)))
