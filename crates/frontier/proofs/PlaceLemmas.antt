-- What stored reaches say, all together.
use Rattle.std.proofs.Common.{◌≡◌, ◌≢◌, ℕ, zero, suc, ◌+◌, ◌-◌, ◌*◌, ◌/◌, ◌%◌, ◌^◌, ◌<◌, ◌==◌, false, nat_lt, List, [], ◌∷◌, length, get_or, replicate, set, refl, sym, ap, ap₂, ◌∙◌, arith, if◌then◌else◌}
use Rattle.std.proofs.lemmas.Bool.Decides.{nat_tests}
use Rattle.std.proofs.lemmas.Nat.{div-mul-add, mod-mul-add}
use Rattle.frontier.specs.declared.reach.Reach.{Reach}
use Rattle.frontier.specs.declared.reach.Reach.TheVariants.{Unreached}
use Rattle.frontier.specs.declared.places.Place.{Place}
use Rattle.frontier.specs.Places.{dist_of, found_of, told, told_all}

differ : (a b : ℕ) → a ≢ b → (a == b) ≡ false
differ a b other = grind (arith, nat_tests)

module _ {C : Type 0} where
  abbrev unreached : Reach C
  unreached = Unreached

  pub length-told : (places : List (Place C)) (apart : List ℕ) → length apart ≡ length places → length (told_all places apart) ≡ length places
  length-told [] apart same = refl
  length-told (p ∷ places) [] same = absurd (omega (arith, same))
  length-told (p ∷ places) (d ∷ apart) same = ap suc (length-told places apart (omega (arith, same)))

  -- what is said of one node
  pub told-at : (places : List (Place C)) (apart : List ℕ) (x : ℕ) (p : Place C) (d : ℕ) → length apart ≡ length places → x < length places → get_or (told_all places apart) x unreached ≡ told (get_or places x p) (get_or apart x d)
  told-at [] apart x p d same lt = absurd (omega (arith, lt))
  told-at (q ∷ places) [] x p d same lt = absurd (omega (arith, same))
  told-at (q ∷ places) (e ∷ apart) zero p d same lt = refl
  told-at (q ∷ places) (e ∷ apart) (suc x) p d same lt = told-at places apart x p d (omega (arith, same)) (omega (arith, lt))

  -- a place gives way to another
  pub told-set : (places : List (Place C)) (apart : List ℕ) (x : ℕ) (place : Place C) (d : ℕ) → length apart ≡ length places → x < length places → told_all (set places x place) apart ≡ set (told_all places apart) x (told place (get_or apart x d))
  told-set [] apart x place d same lt = absurd (omega (arith, lt))
  told-set (q ∷ places) [] x place d same lt = absurd (omega (arith, same))
  told-set (q ∷ places) (e ∷ apart) zero place d same lt = refl
  told-set (q ∷ places) (e ∷ apart) (suc x) place d same lt = ap (λ reaches. told q e ∷ reaches) (told-set places apart x place d (omega (arith, same)) (omega (arith, lt)))

  -- a place gives way to another, with a distance that stands apart
  pub told-set_both : (places : List (Place C)) (apart : List ℕ) (x : ℕ) (place : Place C) (d : ℕ) → length apart ≡ length places → x < length places → told_all (set places x place) (set apart x d) ≡ set (told_all places apart) x (told place d)
  told-set_both [] apart x place d same lt = absurd (omega (arith, lt))
  told-set_both (q ∷ places) [] x place d same lt = absurd (omega (arith, same))
  told-set_both (q ∷ places) (e ∷ apart) zero place d same lt = refl
  told-set_both (q ∷ places) (e ∷ apart) (suc x) place d same lt = ap (λ reaches. told q e ∷ reaches) (told-set_both places apart x place d (omega (arith, same)) (omega (arith, lt)))

  -- places that say nothing
  pub told-none : (place : Place C) (d n : ℕ) → told place d ≡ unreached → told_all (replicate n place) (replicate n d) ≡ replicate n unreached
  told-none place d zero none = refl
  told-none place d (suc n) none = ap₂ (λ (r : Reach C) (reaches : List (Reach C)). r ∷ reaches) none (told-none place d n none)

  -- a distance that the place has
  pub told-short : (carried : C) (dist state apart : ℕ) → dist < 2 ^ 31 - 2 → state < 2 → told (record { word = (dist + 1) * 2 + state; carried = carried }) apart ≡ found_of state (record { dist = dist; carried = carried })
  told-short carried dist state apart short small =
      let word : ℕ = (dist + 1) * 2 + state in
      let some : nat_lt word 2 ≡ false = grind (arith, nat_tests) in
      let other : dist + 1 ≢ 2 ^ 31 - 1 = λ same. omega (arith, same, short) in
      let less : dist + 1 - 1 ≡ dist = omega arith in
      ap (λ t. if t then unreached else found_of (word % 2) (record { dist = dist_of word apart; carried = carried })) some
      ∙ ap₂ (λ (s h : ℕ). found_of s (record { dist = if h == 2 ^ 31 - 1 then apart else h - 1; carried = carried })) (mod-mul-add (dist + 1) 2 state small) (div-mul-add (dist + 1) 2 state small)
      ∙ ap (λ t. found_of state (record { dist = if t then apart else dist + 1 - 1; carried = carried })) (differ (dist + 1) (2 ^ 31 - 1) other)
      ∙ ap (λ d. found_of state (record { dist = d; carried = carried })) less

  -- a distance that stands apart
  pub told-far : (carried : C) (dist state : ℕ) → state < 2 → told (record { word = (2 ^ 31 - 1) * 2 + state; carried = carried }) dist ≡ found_of state (record { dist = dist; carried = carried })
  told-far carried dist state small =
      let word : ℕ = (2 ^ 31 - 1) * 2 + state in
      let some : nat_lt word 2 ≡ false = grind (arith, nat_tests) in
      ap (λ t. if t then unreached else found_of (word % 2) (record { dist = dist_of word dist; carried = carried })) some
      ∙ ap₂ (λ (s h : ℕ). found_of s (record { dist = if h == 2 ^ 31 - 1 then dist else h - 1; carried = carried })) (mod-mul-add (2 ^ 31 - 1) 2 state small) (div-mul-add (2 ^ 31 - 1) 2 state small)

  -- where the place has the distance, what stands apart counts nothing
  pub told-not_apart : (place : Place C) (a b : ℕ) → place.word / 2 ≢ 2 ^ 31 - 1 → told place a ≡ told place b
  told-not_apart place a b short =
      ap (λ t. if nat_lt place.word 2 then unreached else found_of (place.word % 2) (record { dist = if t then a else place.word / 2 - 1; carried = place.carried })) (differ (place.word / 2) (2 ^ 31 - 1) short)
      ∙ sym (ap (λ t. if nat_lt place.word 2 then unreached else found_of (place.word % 2) (record { dist = if t then b else place.word / 2 - 1; carried = place.carried })) (differ (place.word / 2) (2 ^ 31 - 1) short))
