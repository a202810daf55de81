-- What a binary search for a position finds in a row.
use Rattle.std.proofs.Common.{◌≡◌, ℕ, ◌<◌, ◌≤◌, List, Contains, length, get_or, Ok, Err, sym, ap, ◌∙◌, inl, inr, arith}
use Rattle.std.specs.List.Sorted.{IsSearchInRange, IsBinarySearchResult, IsNonDecreasingBy}
use Rattle.std.specs.Ordering.{nat_cmp, ordering_index}
use Rattle.std.proofs.lemmas.Bool.{cases_lt, cases_eq}
use Rattle.std.proofs.lemmas.Bool.Decides.{nat_tests}
use Rattle.std.proofs.lemmas.Cmp.{ranked}
use Rattle.std.proofs.lemmas.List.{get_or-map, get_or_default, length-map}
use Rattle.std.proofs.lemmas.List.Sorted.{IsNonDecreasingBy-from_default}
use Rattle.walk_laws.specs.declared.entry.Entry.{Entry}
use Rattle.walk_laws.proofs.LabelRows.{Rises}
use Rattle.hub_query.proofs.Sums.{pos_of}
use Rattle.via_trace.specs.Traces.{entry_at}
use Rattle.via_trace.proofs.RowFacts.{nothing}

module _ (row : List Entry) (up : Rises pos_of row) (p : ℕ) where
  rise : (i j : ℕ) → i ≤ j → j < length row → (get_or row i nothing).pos ≤ (get_or row j nothing).pos
  rise i j le within = elim (cases_eq i j) [
    | inl same ↦ omega (arith, ap (λ k. (get_or row k nothing).pos) same)
    | inr other ↦
        let far = up i j 0 (omega (arith, le, other)) (omega (arith, within, length-map row pos_of)) in
        omega (arith, far, get_or-map pos_of row i nothing 0 (omega (arith, le, within)), get_or-map pos_of row j nothing 0 within)
  ]

  comparisons_rise : IsNonDecreasingBy (λ e. ordering_index (nat_cmp e.pos p)) row
  comparisons_rise = IsNonDecreasingBy-from_default (λ e. ordering_index (nat_cmp e.pos p)) row nothing (λ i j le within.
      let level : (get_or row i nothing).pos ≤ (get_or row j nothing).pos = rise i j le within in
      grind (arith, nat_tests))

  pub searched_found : (at : ℕ) → IsSearchInRange (Ok at) (length row) → IsBinarySearchResult (λ e. nat_cmp e.pos p) row (Ok at) → (get_or row at nothing).pos ≡ p
  searched_found at within equal = ranked (get_or row at nothing).pos p _ (sym (equal nothing))

  pub searched_none : (at : ℕ) → IsSearchInRange (Err at) (length row) → IsBinarySearchResult (λ e. nat_cmp e.pos p) row (Err at) → (d : ℕ) → Contains row (entry_at p d) → ⊥
  searched_none at within parted d h =
      let here : (get_or row h.0 nothing).pos ≡ p = ap pos_of (get_or_default row h.0 nothing (entry_at p d) h.1 ∙ h.2) in
      elim (cases_lt h.0 at) [
        | inl before ↦ let below : (get_or row h.0 nothing).pos < p = ranked (get_or row h.0 nothing).pos p _ (sym ((parted comparisons_rise).0 h.0 nothing (omega (arith, h.1)) before)) in omega (arith, below, here)
        | inr after ↦ let above : p < (get_or row h.0 nothing).pos = ranked (get_or row h.0 nothing).pos p _ (sym ((parted comparisons_rise).1 h.0 nothing after h.1)) in omega (arith, above, here)
      ]
