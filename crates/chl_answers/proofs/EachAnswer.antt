-- Answers of the elements of a list: each has one, and one only, and may be told in other words.
use Rattle.std.proofs.Common.{◌≡◌, suc, List, [], ◌∷◌, refl, ap, ◌∙◌, arith}
use Rattle.std.specs.Prelude.{All}
use Rattle.std.specs.List.{AllZip}

module _ {E : Type 0} (Fits : E → Type 0) where
  -- the elements after the first fit, too
  after : (e : E) (es : List E) → All Fits (e ∷ es) → All Fits es
  after e es all = λ k d short. all (suc k) d (omega arith)

  first : (e : E) (es : List E) → All Fits (e ∷ es) → Fits e
  first e es all = all 0 e (omega arith)

  module _ {A : Type 0} where
    pub each_exists : (IsOwn : E → A → Type 0) → ((e : E) → Fits e → (a : A) × IsOwn e a) → (es : List E) → All Fits es → (answers : List A) × AllZip IsOwn es answers
    each_exists IsOwn some [] all = ([], tt)
    each_exists IsOwn some (e ∷ es) all =
        let here = some e (first e es all) in
        let rest = each_exists IsOwn some es (after e es all) in
        (here.0 ∷ rest.0, (here.1, rest.1))

    pub each_unique : (IsOwn : E → A → Type 0) → ((e : E) (a b : A) → Fits e → IsOwn e a → IsOwn e b → a ≡ b) → (es : List E) → All Fits es → (xs ys : List A) → AllZip IsOwn es xs → AllZip IsOwn es ys → xs ≡ ys
    each_unique IsOwn one [] all [] [] xs_own ys_own = refl
    each_unique IsOwn one [] all [] (y ∷ ys) xs_own ys_own = absurd ys_own
    each_unique IsOwn one [] all (x ∷ xs) ys xs_own ys_own = absurd xs_own
    each_unique IsOwn one (e ∷ es) all [] ys xs_own ys_own = absurd xs_own
    each_unique IsOwn one (e ∷ es) all (x ∷ xs) [] xs_own ys_own = absurd ys_own
    each_unique IsOwn one (e ∷ es) all (x ∷ xs) (y ∷ ys) xs_own ys_own =
        let same = one e x y (first e es all) xs_own.0 ys_own.0 in
        let rest = each_unique IsOwn one es (after e es all) xs ys xs_own.1 ys_own.1 in
        ap (λ z. z ∷ xs) same ∙ ap (λ zs. y ∷ zs) rest

    pub each_told : (P Q : E → A → Type 0) → ((e : E) (a : A) → Fits e → P e a → Q e a) → (es : List E) → All Fits es → (answers : List A) → AllZip P es answers → AllZip Q es answers
    each_told P Q tells [] all [] told = tt
    each_told P Q tells [] all (a ∷ answers) told = told
    each_told P Q tells (e ∷ es) all [] told = told
    each_told P Q tells (e ∷ es) all (a ∷ answers) told = (tells e a (first e es all) told.0, each_told P Q tells es (after e es all) answers told.1)
