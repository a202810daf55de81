-- Answers of pairs: each pair has one, and one only.
use Rattle.std.proofs.Common.{◌≡◌, ℕ, ◌≤◌, List, [], ◌∷◌, map}
use Rattle.std.specs.Prelude.{Option}
use Rattle.std.specs.List.{AllZip}
use Rattle.hub_query.specs.Meant.{meant}
use Rattle.hub_query.specs.declared.answer.Answer.{Answer}
use Rattle.chl_inputs.specs.Inputs.{ArePairsWithin}
use Rattle.chl_answers.specs.Commands.{AreAnswers}
use Rattle.chl_answers.proofs.EachAnswer.{each_exists, each_unique, each_told}

module _ (n : ℕ) where
  abbrev IsWithin : ℕ × ℕ → Type 0
  IsWithin p = (1 ≤ p.0) × (p.0 ≤ n) × (1 ≤ p.1) × (p.1 ≤ n)

  module _ {A : Type 0} (IsOwn : ℕ → ℕ → A → Type 0) where
    pub answers_exist : ((u v : ℕ) → 1 ≤ u → u ≤ n → 1 ≤ v → v ≤ n → (a : A) × IsOwn u v a) → (pairs : List (ℕ × ℕ)) → ArePairsWithin n pairs → (answers : List A) × AreAnswers IsOwn pairs answers
    answers_exist some = each_exists IsWithin (λ p a. IsOwn p.0 p.1 a) (λ p here. some p.0 p.1 here.0 here.1 here.2 here.3)

    pub answers_unique : ((u v : ℕ) (a b : A) → 1 ≤ u → u ≤ n → 1 ≤ v → v ≤ n → IsOwn u v a → IsOwn u v b → a ≡ b) → (pairs : List (ℕ × ℕ)) → ArePairsWithin n pairs → (xs ys : List A) → AreAnswers IsOwn pairs xs → AreAnswers IsOwn pairs ys → xs ≡ ys
    answers_unique one = each_unique IsWithin (λ p a. IsOwn p.0 p.1 a) (λ p a b here. one p.0 p.1 a b here.0 here.1 here.2 here.3)

  -- what each answer is, told in other words
  pub answers_told : {A : Type 0} (P Q : ℕ → ℕ → A → Type 0) → ((u v : ℕ) (a : A) → 1 ≤ u → u ≤ n → 1 ≤ v → v ≤ n → P u v a → Q u v a) → (pairs : List (ℕ × ℕ)) → ArePairsWithin n pairs → (answers : List A) → AreAnswers P pairs answers → AreAnswers Q pairs answers
  answers_told P Q tells = each_told IsWithin (λ p a. P p.0 p.1 a) (λ p a. Q p.0 p.1 a) (λ p a here. tells p.0 p.1 a here.0 here.1 here.2 here.3)

-- what the code's answers mean
pub answers_meant : (IsOwn : ℕ → ℕ → Option (ℕ × ℕ) → Type 0) (pairs : List (ℕ × ℕ)) (answers : List Answer) → AllZip (λ pair answer. IsOwn pair.0 pair.1 (meant answer)) pairs answers → AreAnswers IsOwn pairs (map meant answers)
answers_meant IsOwn [] [] all = tt
answers_meant IsOwn [] (a ∷ answers) all = all
answers_meant IsOwn (p ∷ pairs) [] all = all
answers_meant IsOwn (p ∷ pairs) (a ∷ answers) all = (all.0, answers_meant IsOwn pairs answers all.1)
