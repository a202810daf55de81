-- Entries that name each node once, sorted by node, name rising nodes.
use Rattle.std.proofs.Common.{◌≡◌, ◌≢◌, ℕ, ◌+◌, ◌<◌, inl, inr, eqb, List, map, length, get_or, sym, ◌∙◌, arith}
use Rattle.std.specs.List.Sorted.{IsPermutation, IsNonDecreasingBy, IsStrictlyIncreasing}
use Rattle.std.proofs.lemmas.Bool.Decides.{Decides-eqb, eqb_tells}
use Rattle.std.proofs.lemmas.List.{length-map, get_or-map}
use Rattle.std.proofs.lemmas.List.Sorted.{IsPermutation-map}
use Rattle.std.proofs.lemmas.Map.Keys.{IsDistinct-IsPermutation}
use Rattle.std.proofs.lemmas.Map.Made.{AllPairs-from_IsDistinct, IsDistinct-from_AllPairs}
use Rattle.plant_tree.specs.Planted.{NamesEachOnce}

eqb_flips : (x y : ℕ) → eqb x y ≡ eqb y x
eqb_flips x y = elim (eqb_tells x y) [
  | inl same ↦ elim (eqb_tells y x) [ inl too ↦ same.0 ∙ sym too.0 | inr other ↦ absurd (other.1 (sym same.1)) ]
  | inr other ↦ elim (eqb_tells y x) [ inl same ↦ absurd (other.1 (sym same.1)) | inr too ↦ other.0 ∙ sym too.0 ]
]

-- entries that change places name each node once as before
once_permuted : (xs ys : List (ℕ × ℕ)) → IsPermutation xs ys → NamesEachOnce xs → NamesEachOnce ys
once_permuted xs ys moved once =
    AllPairs-from_IsDistinct Decides-eqb (map (λ e. e.0) ys)
    (IsDistinct-IsPermutation eqb eqb_flips (map (λ e. e.0) xs) (map (λ e. e.0) ys) (IsPermutation-map (λ e. e.0) xs ys moved) (IsDistinct-from_AllPairs Decides-eqb (map (λ e. e.0) xs) once))

pub rises : (xs ys : List (ℕ × ℕ)) → IsPermutation xs ys → NamesEachOnce xs → IsNonDecreasingBy (λ e. e.0) ys → IsStrictlyIncreasing (map (λ e. e.0) ys)
rises xs ys moved once sorted k lt =
    let inside : k + 1 < length ys = omega (arith, length-map ys (λ (e : ℕ × ℕ). e.0)) in
    let differ : get_or (map (λ e. e.0) ys) k 0 ≢ get_or (map (λ e. e.0) ys) (k + 1) 0 = once_permuted xs ys moved once k (k + 1) 0 (omega arith) lt in
    omega (arith, sorted k (k + 1) (0, 0) (omega arith) inside, get_or-map (λ (e : ℕ × ℕ). e.0) ys k (0, 0) 0 (omega arith), get_or-map (λ (e : ℕ × ℕ). e.0) ys (k + 1) (0, 0) 0 inside)
