-- Lines that are judged in two parts.
use Rattle.std.proofs.Common.{◌≡◌, ℕ, List, [], ◌∷◌, ◌++◌, Result, Ok, Err, refl, ap, ◌∙◌, sym}
use Rattle.text_lines.specs.Judgement.{Progress, ◌>>=◌, after_line, after_lines, value_of_lines}

pub bind_assoc : {A B C F : Type 0} (r : Result A F) (f : A → Result B F) (g : B → Result C F) → (r >>= f) >>= g ≡ r >>= λ x. f x >>= g
bind_assoc (Ok x) f g = refl
bind_assoc (Err fault) f g = refl

bind_same : {A B F : Type 0} (r : Result A F) (f g : A → Result B F) → ((x : A) → f x ≡ g x) → (r >>= f) ≡ (r >>= g)
bind_same (Ok x) f g same = same x
bind_same (Err fault) f g same = refl

module _ {S V F : Type 0} (judged : S → ℕ → List (List ℕ) → Result S F) (ended : S → ℕ → Result V F) where
  pub after_lines-append : (at : Progress S) (xs ys : List (List ℕ)) → after_lines judged ended at (xs ++ ys) ≡ (after_lines judged ended at xs >>= λ after. after_lines judged ended after ys)
  after_lines-append at [] ys = refl
  after_lines-append at (x ∷ xs) ys =
      bind_same (after_line judged ended at x) (λ after. after_lines judged ended after (xs ++ ys)) (λ after. after_lines judged ended after xs >>= λ more. after_lines judged ended more ys) (λ after. after_lines-append after xs ys)
      ∙ sym (bind_assoc (after_line judged ended at x) (λ after. after_lines judged ended after xs) (λ more. after_lines judged ended more ys))

  pub value_of_lines-append : (at : Progress S) (xs ys : List (List ℕ)) → value_of_lines judged ended at (xs ++ ys) ≡ (after_lines judged ended at xs >>= λ after. value_of_lines judged ended after ys)
  value_of_lines-append at xs ys =
      ap (λ r. r >>= λ after. ended after.state after.next) (after_lines-append at xs ys)
      ∙ bind_assoc (after_lines judged ended at xs) (λ after. after_lines judged ended after ys) (λ after. ended after.state after.next)
