-- The positions of a table that have a distance, as they are noted and forgotten.
use Rattle.std.proofs.Common.{◌≡◌, ◌≢◌, ◌↔◌, ℕ, zero, suc, ◌+◌, ◌-◌, ◌^◌, ◌<◌, ◌≤◌, inl, inr, eqb, Option, Some, None, List, [], ◌∷◌, ◌++◌, All, AllPairs, Contains, length, map, get_or, take, replicate, get_or-set_other, get_or-set_same, refl, sym, ap, subst, ◌∙◌, add-one, arith}
use Rattle.std.proofs.Math.ListN.{set, length-set, get_or-eq_default}
use Rattle.std.proofs.Math.Seq.{take-suc, take-suc-set}
use Rattle.std.proofs.lemmas.Bool.{cases_eq, cases_lt, eqb-true}
use Rattle.std.proofs.lemmas.Bool.Decides.{Decides-eqb}
use Rattle.std.proofs.lemmas.List.{ext_get_or, get_or-replicate, length-replicate, length-append, length-map, map-set}
use Rattle.std.proofs.lemmas.List.Elements.{All-push, All-contains, Contains-get_or, Contains-append_left, Contains-append_right, Contains-append_cases}
use Rattle.std.proofs.lemmas.List.Quantifiers.{all_pairs_push}
use Rattle.std.proofs.lemmas.Map.Made.{IsDistinct-from_AllPairs}
use Rattle.std.proofs.lemmas.Map.Steps.{length-le_from_distinct_below}
use Rattle.std.proofs.lemmas.Map.Views.{Contains-from_any}
use Rattle.hub_index.specs.RootDistances.{root_distance}
use Rattle.hub_index.specs.Touched.{HasTouched, clamped_of}

pub one_of : {X : Type 0} (y x : X) → Contains (y ∷ []) x → y ≡ x
one_of y x (zero, lt, is) = is
one_of y x (suc k, lt, is) = absurd (omega arith)

pub none_in : {X : Type 0} (x : X) → Contains [] x → ⊥
none_in x h = omega (arith, h.1)

some_is_not_none : (d : ℕ) → Some d ≡ None → ⊥
some_is_not_none d e = cc

no_distance : Option ℕ
no_distance = None

-- a position outside the table has none
pub root_distance-within : (table : List (Option ℕ)) (p : ℕ) → root_distance table p ≢ None → p < length table
root_distance-within table p held = elim (cases_lt p (length table)) [
  | inl within ↦ within
  | inr outside ↦ absurd (held (get_or-eq_default table None outside))
]

module _ (table : List (Option ℕ)) (touched : List ℕ) (count p : ℕ) (has : HasTouched table touched count) (inside : p < length table) (fresh : root_distance table p ≡ None) where
  not_touched : Contains (take count touched) p → ⊥
  not_touched there = (has.each p).1 there fresh

  once_more : AllPairs (λ x y. x ≢ y) (take count touched ++ p ∷ [])
  once_more = all_pairs_push (λ x y. x ≢ y) (take count touched) p has.once (λ k d lt same. not_touched (subst (λ x. Contains (take count touched) x) same (Contains-get_or (take count touched) k d lt)))

  all_within : All (λ x. x < length table) (take count touched ++ p ∷ [])
  all_within = All-push (λ x. x < length table) (take count touched) p has.within inside

  -- there is room for one that has none yet
  pub room_for_fresh : length (take count touched) ≡ count → count < length touched
  room_for_fresh long =
      let short : length (take count touched ++ p ∷ []) ≤ length table =
      length-le_from_distinct_below (take count touched ++ p ∷ []) (length table) (IsDistinct-from_AllPairs Decides-eqb (take count touched ++ p ∷ []) once_more)
      (λ q any. All-contains (λ x. x < length table) (take count touched ++ p ∷ []) q all_within (Contains-from_any {eq = eqb} eqb-true q (take count touched ++ p ∷ []) any)) in
      omega (arith, short, length-append (take count touched) (p ∷ []), long, has.room)

  module _ (d : ℕ) (room : count < length touched) where
    now_touched : take (count + 1) (set touched count p) ≡ take count touched ++ p ∷ []
    now_touched = rw add-one (take-suc-set touched count p room)

    each_now : (q : ℕ) → (root_distance (set table p (Some d)) q ≢ None) ↔ Contains (take count touched ++ p ∷ []) q
    each_now q = elim (cases_eq q p) [
      | inl here ↦
          let now : root_distance (set table p (Some d)) q ≡ Some d = ap (λ x. root_distance (set table p (Some d)) x) here ∙ get_or-set_same table p (Some d) None inside in (
            λ _. subst (λ x. Contains (take count touched ++ p ∷ []) x) (sym here) (Contains-append_right (take count touched) (p ∷ []) p (0, omega arith, refl)),
            λ _ none. some_is_not_none d (sym now ∙ none),
          )
      | inr other ↦
          let same : root_distance (set table p (Some d)) q ≡ root_distance table q = get_or-set_other table p q (Some d) None other in (
            λ held. Contains-append_left (take count touched) (p ∷ []) q ((has.each q).0 (λ none. held (same ∙ none))),
            λ there. elim (Contains-append_cases (take count touched) (p ∷ []) q there) [
              | inl before ↦ λ none. (has.each q).1 before (sym same ∙ none)
              | inr last ↦ absurd (other (sym (one_of p q last)))
            ],
          )
    ]

    -- it is noted
    pub HasTouched-fresh : HasTouched (set table p (Some d)) (set touched count p) (count + 1)
    HasTouched-fresh =
        let long : length (set table p (Some d)) ≡ length table = length-set table p (Some d) in
        record {
          room = length-set touched count p ∙ has.room ∙ sym long;
          few = omega (arith, length-set touched count p, room);
          once = subst (λ xs. AllPairs (λ x y. x ≢ y) xs) (sym now_touched) once_more;
          within = subst (λ xs. All (λ x. x < length (set table p (Some d))) xs) (sym now_touched) (subst (λ n. All (λ x. x < n) (take count touched ++ p ∷ [])) (sym long) all_within);
          each = λ q. subst (λ xs. (root_distance (set table p (Some d)) q ≢ None) ↔ Contains xs q) (sym now_touched) (each_now q);
        }

-- one that has a distance gets another
pub HasTouched-known : (table : List (Option ℕ)) (touched : List ℕ) (count p known d : ℕ) → HasTouched table touched count → root_distance table p ≡ Some known → HasTouched (set table p (Some d)) touched count
HasTouched-known table touched count p known d has was =
    let long : length (set table p (Some d)) ≡ length table = length-set table p (Some d) in
    let inside = root_distance-within table p (λ none. some_is_not_none known (sym was ∙ none)) in
    record {
      room = has.room ∙ sym long;
      few = has.few;
      once = has.once;
      within = subst (λ n. All (λ x. x < n) (take count touched)) (sym long) has.within;
      each = λ q. elim (cases_eq q p) [
        | inl here ↦
            let now : root_distance (set table p (Some d)) q ≡ Some d = ap (λ x. root_distance (set table p (Some d)) x) here ∙ get_or-set_same table p (Some d) None inside in
            (λ _. (has.each q).0 (λ none. some_is_not_none known (sym was ∙ ap (root_distance table) (sym here) ∙ none)), λ _ none. some_is_not_none d (sym now ∙ none))
        | inr other ↦
            let same : root_distance (set table p (Some d)) q ≡ root_distance table q = get_or-set_other table p q (Some d) None other in
            (λ held. (has.each q).0 (λ none. held (same ∙ none)), λ there none. (has.each q).1 there (sym same ∙ none))
      ];
    }

-- the last one is forgotten
pub held-but_last : (table : List (Option ℕ)) (touched : List ℕ) (count : ℕ) → count < length touched → get_or touched count 0 < length table → ((p : ℕ) → root_distance table p ≢ None → Contains (take (count + 1) touched) p) → (p : ℕ) → root_distance (set table (get_or touched count 0) None) p ≢ None → Contains (take count touched) p
held-but_last table touched count room inside held p has =
    elim (cases_eq p (get_or touched count 0)) [
      | inl here ↦ absurd (has (ap (λ x. root_distance (set table (get_or touched count 0) None) x) here ∙ get_or-set_same table (get_or touched count 0) None None inside))
      | inr other ↦
          let same : root_distance (set table (get_or touched count 0) None) p ≡ root_distance table p = get_or-set_other table (get_or touched count 0) p None None other in
          let cut : take (count + 1) touched ≡ take count touched ++ get_or touched count 0 ∷ [] = rw add-one (take-suc touched count 0 room) in
          elim (Contains-append_cases (take count touched) (get_or touched count 0 ∷ []) p (subst (λ xs. Contains xs p) cut (held p (λ none. has (same ∙ none))))) [
            | inl before ↦ before
            | inr is_last ↦ absurd (other (sym (one_of (get_or touched count 0) p is_last)))
          ]
    ]

-- a table in which no position has a distance
none_there : (o : Option ℕ) → (o ≢ None → ⊥) → o ≡ None
none_there None empty = refl
none_there (Some d) empty = absurd (empty (λ e. cc))

pub all_none : (table : List (Option ℕ)) (n : ℕ) → length table ≡ n → ((p : ℕ) → root_distance table p ≢ None → ⊥) → table ≡ replicate n None
unfolding no_distance
all_none table n size empty =
    ext_get_or None table (replicate n None) (size ∙ sym (length-replicate n no_distance)) (λ i lt. none_there (get_or table i None) (empty i) ∙ sym (get_or-replicate n i no_distance None (omega (arith, size))))

pub HasTouched-none : (table : List (Option ℕ)) (touched : List ℕ) → length touched ≡ length table → ((p : ℕ) → root_distance table p ≢ None → ⊥) → HasTouched table touched 0
HasTouched-none table touched room empty = record {
  room = room;
  few = omega arith;
  once = λ i j d lt within. absurd (omega (arith, within));
  within = λ k d lt. absurd (omega (arith, lt));
  each = λ p. (λ held. absurd (empty p held), λ there. absurd (none_in p there));
}

-- what holds of the first ones holds of all but the last of them, and of the last
pub last_within : (n : ℕ) (touched : List ℕ) (count : ℕ) → count < length touched → All (λ x. x < n) (take (count + 1) touched) → All (λ x. x < n) (take count touched) × (get_or touched count 0 < n)
last_within n touched count room all =
    let cut : take (count + 1) touched ≡ take count touched ++ get_or touched count 0 ∷ [] = rw add-one (take-suc touched count 0 room) in
    let both : All (λ x. x < n) (take count touched ++ get_or touched count 0 ∷ []) = subst (λ xs. All (λ x. x < n) xs) cut all in (
      λ k d lt. All-contains (λ x. x < n) (take count touched ++ get_or touched count 0 ∷ []) (get_or (take count touched) k d) both (Contains-append_left (take count touched) (get_or touched count 0 ∷ []) (get_or (take count touched) k d) (Contains-get_or (take count touched) k d lt)),
      All-contains (λ x. x < n) (take count touched ++ get_or touched count 0 ∷ []) (get_or touched count 0) both (Contains-append_right (take count touched) (get_or touched count 0 ∷ []) (get_or touched count 0) (0, omega arith, refl)),
    )

-- nothing is noted
pub nothing_noted : (n p : ℕ) → root_distance (replicate n None) p ≡ None
unfolding no_distance
nothing_noted n p = elim (cases_lt p n) [
  | inl within ↦ get_or-replicate n p None None within
  | inr outside ↦ get_or-eq_default (replicate n None) None (none_longer n p outside)
]
  where
    none_longer : (n p : ℕ) → n ≤ p → length (replicate n no_distance) ≤ p
    none_longer n p le = rw length-replicate le

-- a new table
pub HasTouched-new : (n : ℕ) → HasTouched (replicate n None) (replicate n 0) 0
unfolding no_distance
HasTouched-new n = HasTouched-none (replicate n None) (replicate n 0) (length-replicate n 0 ∙ sym (length-replicate n no_distance)) (λ p held. held (nothing_noted n p))

-- no position has a distance to be tested
pub clamped-none : (n : ℕ) → replicate n (2 ^ 32 - 1) ≡ map clamped_of (replicate n None)
clamped-none zero = refl
clamped-none (suc n) = ap (λ xs. (2 ^ 32 - 1) ∷ xs) (clamped-none n)

-- a distance is written in both ways
pub clamped-set : (dists : List (Option ℕ)) (clamped : List ℕ) (p : ℕ) (o : Option ℕ) → clamped ≡ map clamped_of dists → set clamped p (clamped_of o) ≡ map clamped_of (set dists p o)
clamped-set dists clamped p o is = ap (λ xs. set xs p (clamped_of o)) is ∙ sym (map-set clamped_of dists p o)

pub clamped-length : (dists : List (Option ℕ)) (clamped : List ℕ) → clamped ≡ map clamped_of dists → length clamped ≡ length dists
clamped-length dists clamped is = ap length is ∙ length-map dists clamped_of
