-- The numbers of a pair without fault are a pair.
use Rattle.std.proofs.Common.{◌≡◌, ℕ, ◌^◌, ◌<◌, Bool, false, cond, List, [], ◌∷◌, map, length, get_or, Some, None, refl, ap, sym, ◌∙◌, arith}
use Rattle.std.specs.Prelude.{◌||◌}
use Rattle.dimacs_text.specs.Counted.{is_outside, kept}
use Rattle.dimacs_text.specs.PairsText.{pair_fault, pair_numbers, pair_of}
use Rattle.dimacs_text.specs.declared.fault.TextKind.TheVariants.{NodeRange}
use Rattle.dimacs_text.proofs.ArcFacts.{node_kept}

no_fault : (s t : Bool) → s ≡ false → t ≡ false → cond (s || t) (Some NodeRange) None ≡ None
no_fault s t is_s is_t = rw (is_s, is_t) refl

-- two numbers that have no fault as they are kept have none, and are kept as they are
pub pair_taken : (n : ℕ) (counts values numbers : List ℕ) → n < 2 ^ 64 → numbers ≡ kept values → length numbers ≡ 2 → is_outside n (get_or numbers 0 0) ≡ false → is_outside n (get_or numbers 1 0) ≡ false → (pair_fault n counts values ≡ None) × (get_or numbers 0 0 ∷ get_or numbers 1 0 ∷ [] ≡ values)
pair_taken n counts [] numbers low is size s t = absurd (omega (arith, ap length is))
pair_taken n counts (x ∷ []) numbers low is size s t = absurd (omega (arith, ap length is))
pair_taken n counts (x ∷ y ∷ []) numbers low is size s t =
    let same_s : get_or numbers 0 0 ≡ x = ap (λ l. get_or l 0 0) is ∙ node_kept n x low (ap (λ l. is_outside n (get_or l 0 0)) (sym is) ∙ s) in
    let same_t : get_or numbers 1 0 ≡ y = ap (λ l. get_or l 1 0) is ∙ node_kept n y low (ap (λ l. is_outside n (get_or l 1 0)) (sym is) ∙ t) in (
      no_fault (is_outside n x) (is_outside n y) (ap (is_outside n) (sym same_s) ∙ s) (ap (is_outside n) (sym same_t) ∙ t),
      λ i. same_s i ∷ same_t i ∷ [],
    )
pair_taken n counts (x ∷ y ∷ z ∷ values) numbers low is size s t = absurd (omega (arith, ap length is))

pub pairs_back : (pairs : List (ℕ × ℕ)) → map pair_of (map pair_numbers pairs) ≡ pairs
pairs_back [] = refl
pairs_back (pair ∷ pairs) = ap (λ ps. pair ∷ ps) (pairs_back pairs)
