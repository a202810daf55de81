-- Where a row by rising position meets an entry.
use Rattle.std.proofs.Common.{◌≡◌, ◌<◌, ℕ, true, false, ltb, List, Contains, length, map, get_or, ap, subst, ◌∙◌, inl, inr, arith}
use Rattle.std.specs.List.Sorted.{IsNonDecreasingBy, IsPartitionPoint, IsStrictlyIncreasing}
use Rattle.std.proofs.lemmas.Bool.{cases_lt, ltb-true, ltb-false}
use Rattle.std.proofs.lemmas.List.{get_or-map, get_or_default, length-map}
use Rattle.std.proofs.lemmas.List.Kept.{AllPairs-from_increasing}
use Rattle.walk_laws.specs.declared.entry.Entry.{Entry}
use Rattle.label_clean.proofs.Covering.{entry, pos_of}

-- positions that rise don't fall
pub never_falls : (row : List Entry) → IsStrictlyIncreasing (map pos_of row) → IsNonDecreasingBy pos_of row
never_falls row up i j d le lt = elim (cases_lt i j) [
  | inl before ↦
      omega (arith, AllPairs-from_increasing (map pos_of row) up i j 0 before (omega (arith, lt, length-map row pos_of)), get_or-map pos_of row i d 0 (omega (arith, lt, before)), get_or-map pos_of row j d 0 lt)
  | inr after ↦ let is : i ≡ j = omega (arith, le, after) in omega (arith, ap (λ k. (get_or row k d).pos) is)
]

-- an entry at the position p stands at the point that parts the row
pub stands_there : (row : List Entry) (p place b : ℕ) → IsStrictlyIncreasing (map pos_of row) → IsPartitionPoint (λ (e : Entry). ltb e.pos p ≡ true) (λ e. ltb e.pos p ≡ false) row place → Contains row (entry p b) → (place < length row) × ((none : Entry) → get_or row place none ≡ entry p b)
stands_there row p place b rising parted (k, within, is) =
    let there : (get_or row k (entry p b)).pos ≡ p = ap pos_of is in
    elim (cases_lt k place) [
      | inl before ↦ absurd (omega (arith, there, ltb-true (get_or row k (entry p b)).pos p (parted.0 k (entry p b) (omega arith) before)))
      | inr from ↦ elim (cases_lt place k) [
        | inl past ↦
            let up = AllPairs-from_increasing (map pos_of row) rising place k 0 past (omega (arith, within, length-map row pos_of)) in
            let first = get_or-map pos_of row place (entry p b) 0 (omega (arith, past, within)) in
            let second = get_or-map pos_of row k (entry p b) 0 within in
            absurd (omega (arith, up, first, second, there, ltb-false (get_or row place (entry p b)).pos p (parted.1 place (entry p b) (omega arith) (omega (arith, past, within)))))
        | inr at ↦
            let same : k ≡ place = omega (arith, from, at) in (
              omega (arith, same, within),
              λ none. get_or_default row place none (entry p b) (omega (arith, same, within)) ∙ subst (λ i. get_or row i (entry p b) ≡ entry p b) same is,
            )
      ]
    ]
