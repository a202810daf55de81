-- The lines of bytes that are cut in two.
use Rattle.std.proofs.Common.{◌≡◌, ◌≢◌, ℕ, suc, true, false, eqb, cond, All, List, [], ◌∷◌, ◌++◌, refl, ap, sym, ◌∙◌, arith}
use Rattle.std.proofs.lemmas.Bool.Decides.{nat_tests}
use Rattle.std.proofs.lemmas.List.{append_assoc, append-nil}
use Rattle.desk_io.specs.Lines.{without_cr, whole_lines, open_rest}

pub whole_lines-append : (begun xs ys : List ℕ) → whole_lines begun (xs ++ ys) ≡ whole_lines begun xs ++ whole_lines (open_rest begun xs) ys
whole_lines-append begun [] ys = refl
whole_lines-append begun (b ∷ xs) ys =
    elim (eqb b 10) as (λ t. cond t (without_cr begun ∷ whole_lines [] (xs ++ ys)) (whole_lines (begun ++ b ∷ []) (xs ++ ys)) ≡ cond t (without_cr begun ∷ whole_lines [] xs) (whole_lines (begun ++ b ∷ []) xs) ++ whole_lines (cond t (open_rest [] xs) (open_rest (begun ++ b ∷ []) xs)) ys) [
      | true ↦ ap (λ l. without_cr begun ∷ l) (whole_lines-append [] xs ys)
      | false ↦ whole_lines-append (begun ++ b ∷ []) xs ys
    ]

pub open_rest-append : (begun xs ys : List ℕ) → open_rest begun (xs ++ ys) ≡ open_rest (open_rest begun xs) ys
open_rest-append begun [] ys = refl
open_rest-append begun (b ∷ xs) ys =
    elim (eqb b 10) as (λ t. cond t (open_rest [] (xs ++ ys)) (open_rest (begun ++ b ∷ []) (xs ++ ys)) ≡ open_rest (cond t (open_rest [] xs) (open_rest (begun ++ b ∷ []) xs)) ys) [
      | true ↦ open_rest-append [] xs ys
      | false ↦ open_rest-append (begun ++ b ∷ []) xs ys
    ]

not_lf : (b : ℕ) (run : List ℕ) → All (λ x. x ≢ 10) (b ∷ run) → eqb b 10 ≡ false
not_lf b run all = let differ : b ≢ 10 = all 0 0 (omega arith) in grind (arith, nat_tests)

after : (b : ℕ) (run : List ℕ) → All (λ x. x ≢ 10) (b ∷ run) → All (λ x. x ≢ 10) run
after b run all = λ k d h. all (suc k) d (omega arith)

-- a run without an LF ends no line
pub whole_lines-run : (begun run : List ℕ) → All (λ b. b ≢ 10) run → whole_lines begun run ≡ []
whole_lines-run begun [] all = refl
whole_lines-run begun (b ∷ run) all = rw (not_lf b run all) (whole_lines-run (begun ++ b ∷ []) run (after b run all))

-- and is open, all of it
pub open_rest-run : (begun run : List ℕ) → All (λ b. b ≢ 10) run → open_rest begun run ≡ begun ++ run
open_rest-run begun [] all = sym (append-nil begun)
open_rest-run begun (b ∷ run) all =
    rw (not_lf b run all) (open_rest-run (begun ++ b ∷ []) run (after b run all) ∙ append_assoc begun (b ∷ []) run)

-- the first line is what stands before the first LF
pub whole_lines-first : (begun run rest : List ℕ) → All (λ b. b ≢ 10) run → whole_lines begun (run ++ 10 ∷ rest) ≡ without_cr (begun ++ run) ∷ whole_lines [] rest
whole_lines-first begun run rest all =
    whole_lines-append begun run (10 ∷ rest)
    ∙ ap (λ l. l ++ whole_lines (open_rest begun run) (10 ∷ rest)) (whole_lines-run begun run all)
    ∙ ap (λ l. without_cr l ∷ whole_lines [] rest) (open_rest-run begun run all)

pub open_rest-first : (begun run rest : List ℕ) → All (λ b. b ≢ 10) run → open_rest begun (run ++ 10 ∷ rest) ≡ open_rest [] rest
open_rest-first begun run rest all = open_rest-append begun run (10 ∷ rest)
