-- What two rows say of a pair: something, and one thing only.
use Rattle.std.proofs.Common.{◌≡◌, ◌⊎◌, ℕ, zero, suc, ◌+◌, ◌^◌, ◌<◌, ◌≤◌, List, [], ◌∷◌, All, length, map, get_or, Some, None, Option, refl, inl, inr, arith}
use Rattle.std.specs.List.Sorted.{IsStrictlyIncreasing}
use Rattle.std.proofs.lemmas.Bool.{cases_lt}
use Rattle.std.proofs.lemmas.List.Elements.{All-contains}
use Rattle.std.proofs.lemmas.List.Kept.{AllPairs-from_increasing}
use Rattle.std.proofs.lemmas.Option.{slice_get-get_or}
use Rattle.walk_laws.specs.declared.entry.Entry.{Entry}
use Rattle.walk_laws.specs.Labelling.{label_row}
use Rattle.walk_laws.specs.Meet.{IsLeastSum, ShareNone, IsMeet}
use Rattle.walk_laws.proofs.CommonHubs.{IsMeet-unique}
use Rattle.walk_laws.proofs.Members.{Contains-first}
use Rattle.hub_index.specs.WellFormed.{IsWellFormed}
use Rattle.hub_query.proofs.Walked.{Walked, Walked-start, Walked-past_first, Walked-past_second, Walked-keep, Walked-take, Walked-none, Walked-some}
use Rattle.hub_query.proofs.RowFacts.{row_rises, row_fits, row_positions, HasSum-position}

-- two rows say one thing at most
pub meet_unique : (at : List ℕ) (rows : List (List Entry)) (u v : ℕ) (a b : Option (ℕ × ℕ)) → IsMeet at rows u v a → IsMeet at rows u v b → a ≡ b
meet_unique = IsMeet-unique

module _ (first second : List Entry) (fits : All (λ (e : Entry). e.dist < 2 ^ 64) first) (others_fit : All (λ (e : Entry). e.dist < 2 ^ 64) second) where
  -- more than each sum
  abbrev unset : ℕ
  unset = 2 ^ 65

  -- they share no position, or have a least sum
  abbrev Told : Type 0
  Told = ShareNone first second ⊎ ((p : ℕ) × (d : ℕ) × IsLeastSum first second p d)

  told_at_end : (xs ys : List Entry) (pos least : ℕ) → Walked unset first second xs ys pos least → (xs ≡ []) ⊎ (ys ≡ []) → Told
  told_at_end xs ys pos least w over = elim (cases_lt least unset) [
    | inl some ↦ inr (pos, least, Walked-some unset first second xs ys pos least w over (λ none. omega (arith, none)))
    | inr none ↦ inl (Walked-none unset first second xs ys pos least w over (2 ^ 64) (omega arith) fits others_fit none)
  ]

  -- a walk of n steps comes to the end of one of them
  walk_on : (n : ℕ) (xs ys : List Entry) (pos least : ℕ) → length xs + length ys ≤ n → Walked unset first second xs ys pos least → Told
  walk_on n [] ys pos least few w = told_at_end [] ys pos least w (inl refl)
  walk_on n (a ∷ xs) [] pos least few w = told_at_end (a ∷ xs) [] pos least w (inr refl)
  walk_on zero (a ∷ xs) (b ∷ ys) pos least few w = absurd (omega arith)
  walk_on (suc n) (a ∷ xs) (b ∷ ys) pos least few w = elim (cases_lt a.pos b.pos) [
    | inl less ↦ walk_on n xs (b ∷ ys) pos least (omega arith) (Walked-past_first unset first second a b xs ys pos least w less)
    | inr not_less ↦ elim (cases_lt b.pos a.pos) [
      | inl more ↦ walk_on n (a ∷ xs) ys pos least (omega arith) (Walked-past_second unset first second a b xs ys pos least w more)
      | inr not_more ↦ elim (cases_lt (a.dist + b.dist) least) [
        | inl lesser ↦ walk_on n xs ys a.pos (a.dist + b.dist) (omega arith) (Walked-take unset first second a b xs ys pos least w (omega arith) lesser)
        | inr no_less ↦
            let short : a.dist < 2 ^ 64 = All-contains (λ (e : Entry). e.dist < 2 ^ 64) first a fits (w.first_has a (Contains-first a xs)) in
            let other_short : b.dist < 2 ^ 64 = All-contains (λ (e : Entry). e.dist < 2 ^ 64) second b others_fit (w.second_has b (Contains-first b ys)) in
            walk_on n xs ys pos least (omega arith) (Walked-keep unset first second a b xs ys pos least w (omega arith) no_less (omega arith))
      ]
    ]
  ]

  told : IsStrictlyIncreasing (map (λ (e : Entry). e.pos) first) → IsStrictlyIncreasing (map (λ (e : Entry). e.pos) second) → Told
  told rising others_rising =
      walk_on (length first + length second) first second 0 unset (omega arith)
      (Walked-start unset first second (AllPairs-from_increasing (map (λ (e : Entry). e.pos) first) rising) (AllPairs-from_increasing (map (λ (e : Entry). e.pos) second) others_rising))

-- and the rows of two nodes of an index say one
pub meet_exists : (at : List ℕ) (rows : List (List Entry)) (u v : ℕ) → IsWellFormed at rows → 1 ≤ u → u ≤ length at → 1 ≤ v → v ≤ length at → (answer : Option (ℕ × ℕ)) × IsMeet at rows u v answer
meet_exists at rows u v well u_node u_within v_node v_within =
    elim (told (label_row rows u) (label_row rows v) (row_fits at rows u well u_node u_within) (row_fits at rows v well v_node v_within) (row_rises at rows u well u_node u_within) (row_rises at rows v well v_node v_within)) [
      | inl none ↦ (None, none)
      | inr found ↦
          let within : found.0 < length at = HasSum-position (label_row rows u) (label_row rows v) found.0 found.1 (length at) found.2.sum (row_positions at rows u well u_node u_within) in
          (Some (found.1, get_or at found.0 0), (found.0, slice_get-get_or at found.0 0 within, found.2))
    ]
