-- What a binary search for a position finds in a row.
use Rattle.std.proofs.Common.{◌≡◌, ℕ, ◌<◌, ◌≤◌, List, Contains, length, get_or, Ok, Err, sym, ap, subst, ◌∙◌, inl, inr, arith}
use Rattle.std.specs.List.Sorted.{IsSearchInRange, IsBinarySearchResult, IsNonDecreasingBy}
use Rattle.std.specs.Ordering.{nat_cmp, ordering_index}
use Rattle.std.proofs.lemmas.Bool.{cases_lt, cases_eq}
use Rattle.std.proofs.lemmas.Bool.Decides.{nat_tests}
use Rattle.std.proofs.lemmas.Cmp.{ranked}
use Rattle.std.proofs.lemmas.List.{get_or-map, get_or_default, length-map}
use Rattle.std.proofs.lemmas.List.Elements.{Contains-get_or}
use Rattle.std.proofs.lemmas.List.Sorted.{IsNonDecreasingBy-from_default}
use Rattle.walk_laws.specs.declared.entry.Entry.{Entry}
use Rattle.walk_laws.proofs.LabelRows.{Rises}
use Rattle.hub_query.proofs.Sums.{pos_of}
use Rattle.index_audit.specs.Places.{pos_at}

-- an entry for a read past the end, where none is made
abbrev pub nothing : Entry
nothing = record { pos = 0; dist = 0 }

-- what a row contains stands at a place
pub at_place : (row : List Entry) (e : Entry) → (h : Contains row e) → get_or row h.0 nothing ≡ e
at_place row e h = get_or_default row h.0 nothing e h.1 ∙ h.2

module _ (row : List Entry) (up : Rises pos_of row) where
  -- positions rise with their places
  pub rises_at : (i j : ℕ) → i < j → j < length row → pos_at row i < pos_at row j
  rises_at i j lt within =
      let far = up i j 0 lt (omega (arith, length-map row pos_of)) in
      omega (arith, get_or-map pos_of row i nothing 0 (omega arith), get_or-map pos_of row j nothing 0 within)

  pub rises_up_to : (i j : ℕ) → i ≤ j → j < length row → pos_at row i ≤ pos_at row j
  rises_up_to i j le within = elim (cases_eq i j) [
    | inl same ↦ omega (arith, ap (pos_at row) same)
    | inr other ↦ omega (arith, rises_at i j (omega (arith, le, other)) within)
  ]

  -- what has the position that stands at a place is what stands there
  pub same_place : (e : Entry) (k : ℕ) → (h : Contains row e) → k < length row → e.pos ≡ pos_at row k → get_or row k nothing ≡ e
  same_place e k h within level =
      let here : pos_at row h.0 ≡ e.pos = ap pos_of (at_place row e h) in
      elim (cases_lt h.0 k) [
        | inl before ↦ absurd (omega (arith, rises_at h.0 k before within, here, level))
        | inr not_before ↦ elim (cases_lt k h.0) [
          | inl after ↦ absurd (omega (arith, rises_at k h.0 after h.1, here, level))
          | inr even ↦ let same : h.0 ≡ k = omega (arith, not_before, even) in subst (λ i. get_or row i nothing ≡ e) same (at_place row e h)
        ]
      ]

  module _ (p : ℕ) where
    comparisons_rise : IsNonDecreasingBy (λ e. ordering_index (nat_cmp e.pos p)) row
    comparisons_rise = IsNonDecreasingBy-from_default (λ e. ordering_index (nat_cmp e.pos p)) row nothing (λ i j le within.
        let rise : pos_at row i ≤ pos_at row j = rises_up_to i j le within in
        grind (arith, nat_tests))

    pub searched_found : (at : ℕ) → IsSearchInRange (Ok at) (length row) → IsBinarySearchResult (λ e. nat_cmp e.pos p) row (Ok at) → Contains row (record { pos = p; dist = (get_or row at nothing).dist })
    searched_found at within equal =
        let level : pos_at row at ≡ p = ranked (pos_at row at) p _ (sym (equal nothing)) in
        subst (λ q. Contains row (record { pos = q; dist = (get_or row at nothing).dist })) level (Contains-get_or row at nothing within)

    pub searched_none : (at : ℕ) → IsSearchInRange (Err at) (length row) → IsBinarySearchResult (λ e. nat_cmp e.pos p) row (Err at) → (d : ℕ) → Contains row (record { pos = p; dist = d }) → ⊥
    searched_none at within parted d h =
        let here : pos_at row h.0 ≡ p = ap pos_of (at_place row (record { pos = p; dist = d }) h) in
        elim (cases_lt h.0 at) [
          | inl before ↦ let below : pos_at row h.0 < p = ranked (pos_at row h.0) p _ (sym ((parted comparisons_rise).0 h.0 nothing (omega (arith, h.1)) before)) in omega (arith, below, here)
          | inr after ↦ let above : p < pos_at row h.0 = ranked (pos_at row h.0) p _ (sym ((parted comparisons_rise).1 h.0 nothing after h.1)) in omega (arith, above, here)
        ]
