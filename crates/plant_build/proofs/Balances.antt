-- Each step of a pass keeps the rule.
use Rattle.std.proofs.Common.{◌≡◌, ℕ, zero, suc, ◌+◌, Bool, true, false, true≢false, List, [], ◌∷◌, ◌++◌, set, cond, refl, sym, ap, ◌∙◌, arith}
use Rattle.std.specs.Prelude.{sum_by}
use Rattle.std.proofs.lemmas.List.Sums.{sum_by-cons, sum_by-append, sum_by_push}
use mathlib.Core.Option.{some, some-injective, some-ne-none}
use lib.ListN.{get_elem?}
use Rattle.crossbeam_deque.specs.Tasks.{Pushes, Takes, Forks, Merges, Learns}
use Rattle.plant_build.specs.declared.rule.Known.{Known}
use Rattle.plant_build.specs.Balance.{times, nothing, lent, with_put, with_got, with_lent, with_returned, got_by, out_by, AreIdle, IsBalanced, IsWhole}

pub times-append : (x : ℕ) (xs ys : List ℕ) → times x (xs ++ ys) ≡ times x xs + times x ys
times-append x xs ys = sum_by-append _ xs ys

-- the sum over passes after a change of one
sum_set : (f : Known → ℕ) (passes : List Known) (port : ℕ) (v w : Known) → get_elem? passes port ≡ some v → sum_by f (set passes port w) + f v ≡ sum_by f passes + f w
sum_set f [] port v w at = absurd (some-ne-none v (sym at))
sum_set f (u ∷ us) zero v w at = let same = ap f (some-injective u v at) in omega (arith, sum_by-cons f w us, sum_by-cons f u us)
sum_set f (u ∷ us) (suc port) v w at = omega (arith, sum_by-cons f u us, sum_by-cons f u (set us port w), sum_set f us port v w at)

idle_set : (passes : List Known) (port : ℕ) (w : Known) → (w.out ≡ false → w.got ≡ []) → AreIdle passes → AreIdle (set passes port w)
idle_set [] port w idle all = tt
idle_set (u ∷ us) zero w idle all = (idle, all.1)
idle_set (u ∷ us) (suc port) w idle all = (all.0, idle_set us port w idle all.1)

idle_push : (passes : List Known) (w : Known) → (w.out ≡ false → w.got ≡ []) → AreIdle passes → AreIdle (passes ++ w ∷ [])
idle_push [] w idle all = (idle, tt)
idle_push (u ∷ us) w idle all = (all.0, idle_push us w idle all.1)

-- where none is lent, nothing was taken with them
none_taken : (x : ℕ) (passes : List Known) → out_by passes ≡ 0 → AreIdle passes → got_by x passes ≡ 0
none_taken x [] none all = refl
none_taken x (u ∷ us) none all =
    let more = sum_by-cons (λ (v : Known). cond v.out 1 0) u us in
    let back : (b : Bool) → cond b 1 0 + out_by us ≡ 0 → b ≡ false = elim [ true ↦ λ e. absurd (omega (arith, e)) | false ↦ λ _. refl ] in
    let zero_out : cond u.out 1 0 + out_by us ≡ 0 = sym more ∙ none in
    let taken = ap (times x) (all.0 (back u.out zero_out)) in
    omega (arith, sum_by-cons (λ (v : Known). times x v.got) u us, none_taken x us (omega (arith, zero_out)) all.1)

pub begins : IsBalanced [] (nothing ∷ [])
begins = ((λ x. refl), refl, tt)

pub puts : (port : ℕ) → port ≡ 0 → (v : Known) (xs : List ℕ) → Pushes IsBalanced port v xs (λ w. w ≡ with_put v xs)
puts (suc port) own v xs items views h at = absurd (omega (arith, own))
puts zero own v xs items [] h at = absurd (some-ne-none v (sym at))
puts zero own v xs items (u ∷ us) h at =
    let is = some-injective u v at in (
      with_put v xs,
      (
        (λ x.
            let put = ap (λ (k : Known). times x k.put) is in
            let got = ap (λ (k : Known). times x k.got) is in
            omega (arith, h.0 x, times-append x v.put xs, times-append x items xs)),
        let is_lent = ap (λ (k : Known). k.lent) is in let is_back = ap (λ (k : Known). k.back) is in omega (arith, h.1),
        h.2,
      ),
      refl,
    )

pub takes_own : (port : ℕ) → port ≡ 0 → (v : Known) → Takes IsBalanced port v 1 (λ xs w. w ≡ with_got v xs)
takes_own (suc port) own v xs items views _ _ h at = absurd (omega (arith, own))
takes_own zero own v xs items [] _ _ h at = absurd (some-ne-none v (sym at))
takes_own zero own v xs items (u ∷ us) _ _ h at =
    let is = some-injective u v at in (
      with_got v xs,
      (
        (λ x.
            let put = ap (λ (k : Known). times x k.put) is in
            let got = ap (λ (k : Known). times x k.got) is in
            omega (arith, h.0 x, times-append x v.got xs, times-append x xs items)),
        let is_lent = ap (λ (k : Known). k.lent) is in let is_back = ap (λ (k : Known). k.back) is in omega (arith, h.1),
        h.2,
      ),
      refl,
    )

pub takes_lent : (port : ℕ) (v : Known) → v.out ≡ true → Takes IsBalanced port v 1 (λ xs w. w ≡ with_got v xs)
takes_lent zero v out xs items views more few h at = takes_own zero refl v xs items views more few h at
takes_lent (suc port) v out xs items [] _ _ h at = absurd (some-ne-none v (sym at))
takes_lent (suc port) v out xs items (u ∷ us) _ _ h at =
    let w : Known = with_got v xs in (
      w,
      (
        (λ x.
            let got = sum_set (λ (k : Known). times x k.got) us port v w at in
            omega (arith, h.0 x, times-append x v.got xs, times-append x xs items)),
        (let outs = sum_set (λ (k : Known). cond k.out 1 0) us port v w at in let was = h.1 in omega arith),
        idle_set us port w (λ none. absurd (true≢false (sym out ∙ none))) h.2,
      ),
      refl,
    )

pub lends : (port : ℕ) → port ≡ 0 → (v : Known) → Forks IsBalanced port v (with_lent v) lent
lends (suc port) own v items views h at = absurd (omega (arith, own))
lends zero own v items [] h at = absurd (some-ne-none v (sym at))
lends zero own v items (u ∷ us) h at =
    let is = some-injective u v at in (
      (λ x.
          let put = ap (λ (k : Known). times x k.put) is in
          let got = ap (λ (k : Known). times x k.got) is in
          omega (arith, h.0 x, sum_by_push (λ (k : Known). times x k.got) us lent)),
      (let is_lent = ap (λ (k : Known). k.lent) is in let is_back = ap (λ (k : Known). k.back) is in let was = h.1 in omega (arith, sum_by_push (λ (k : Known). cond k.out 1 0) us lent)),
      idle_push us lent (λ _. refl) h.2,
    )

pub returns : (port : ℕ) → port ≡ 0 → (v : Known) (other : ℕ) (w : Known) → w.out ≡ true → Merges IsBalanced port v other w (with_returned v w) nothing
returns (suc port) own v other w out items views h at apart at' = absurd (omega (arith, own))
returns zero own v zero w out items views h at apart at' = absurd (apart refl)
returns zero own v (suc other) w out items [] h at apart at' = absurd (some-ne-none v (sym at))
returns zero own v (suc other) w out items (u ∷ us) h at apart at' =
    let is = some-injective u v at in (
      (λ x.
          let put = ap (λ (k : Known). times x k.put) is in
          let got = ap (λ (k : Known). times x k.got) is in
          let gots = sum_set (λ (k : Known). times x k.got) us other w nothing at' in
          omega (arith, h.0 x, times-append x v.got w.got)),
      (
          let is_lent = ap (λ (k : Known). k.lent) is in
          let is_back = ap (λ (k : Known). k.back) is in
          let was = h.1 in
          let one : cond {A = ℕ} w.out 1 0 ≡ 1 = ap (λ (b : Bool). cond {A = ℕ} b 1 0) out in
          let outs = sum_set (λ (k : Known). cond k.out 1 0) us other w nothing at' in
          omega arith
          ),
      idle_set us other nothing (λ _. refl) h.2,
    )

pub wholes : (port : ℕ) → port ≡ 0 → (v : Known) → Learns IsBalanced port v (IsWhole v)
wholes (suc port) own v items views h at = absurd (omega (arith, own))
wholes zero own v items [] h at = absurd (some-ne-none v (sym at))
wholes zero own v items (u ∷ us) h at =
    let is = some-injective u v at in
    let is_lent = ap (λ (k : Known). k.lent) is in
    let is_back = ap (λ (k : Known). k.back) is in
    let was = h.1 in (
      omega arith,
      λ all x.
          let put = ap (λ (k : Known). times x k.put) is in
          let got = ap (λ (k : Known). times x k.got) is in
          let none : out_by us ≡ 0 = omega arith in
          omega (arith, h.0 x, none_taken x us none h.2),
    )
