-- A line without one CR at its end, by its length.
use Rattle.std.proofs.Common.{◌≡◌, ◌≢◌, ℕ, zero, suc, false, true, eqb, cond, List, [], ◌∷◌, length, get_or, take, refl, ap, arith}
use Rattle.std.proofs.lemmas.Bool.{eq-eqb}
use Rattle.std.proofs.lemmas.Bool.Decides.{nat_tests}
use Rattle.desk_io.specs.Lines.{without_cr}

-- with a CR at its end it loses that byte
pub without_cr-strip : (line : List ℕ) (k : ℕ) → length line ≡ suc k → get_or line k 0 ≡ 13 → take k line ≡ without_cr line
without_cr-strip [] k size is = cc
without_cr-strip (b ∷ []) (suc k) size is = absurd (omega arith)
without_cr-strip (b ∷ []) zero size is = let is_cr : b ≡ 13 = is in rw (eq-eqb b 13 is_cr) refl
without_cr-strip (b ∷ c ∷ line) zero size is = absurd (omega arith)
without_cr-strip (b ∷ c ∷ line) (suc k) size is = ap (λ l. b ∷ l) (without_cr-strip (c ∷ line) k (omega arith) is)

-- without one it stays as it is
pub without_cr-keep : (line : List ℕ) → ((k : ℕ) → length line ≡ suc k → get_or line k 0 ≢ 13) → line ≡ without_cr line
without_cr-keep [] differs = refl
without_cr-keep (b ∷ []) differs = let differ : b ≢ 13 = differs 0 refl in grind (arith, nat_tests)
without_cr-keep (b ∷ c ∷ line) differs = ap (λ l. b ∷ l) (without_cr-keep (c ∷ line) (λ k size. differs (suc k) (omega arith)))

-- it is a prefix of the line
pub without_cr-prefix : (line : List ℕ) → take (length (without_cr line)) line ≡ without_cr line
without_cr-prefix [] = refl
without_cr-prefix (b ∷ []) = elim (eqb b 13) as (λ t. take (length (cond t [] (b ∷ []))) (b ∷ []) ≡ cond t [] (b ∷ [])) [ true ↦ refl | false ↦ refl ]
without_cr-prefix (b ∷ c ∷ line) = ap (λ l. b ∷ l) (without_cr-prefix (c ∷ line))
