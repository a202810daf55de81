-- The lines of bytes whose first line is judged before the others.
use Rattle.std.proofs.Common.{◌≡◌, ◌≢◌, ℕ, All, List, [], ◌∷◌, ◌++◌, Result, Ok, Err, ap, ◌∙◌, sym}
use Rattle.desk_io.specs.Lines.{without_cr, whole_lines, open_rest}
use Rattle.desk_io.proofs.LineCuts.{whole_lines-first, open_rest-first}
use Rattle.text_lines.specs.Judgement.{Progress, ◌>>=◌, after_line, after_lines}

module _ {S V F : Type 0} (judged : S → ℕ → List (List ℕ) → Result S F) (ended : S → ℕ → Result V F) where
  first_line : (at : Progress S) (begun bytes run rest : List ℕ) → bytes ≡ run ++ 10 ∷ rest → All (λ b. b ≢ 10) run → after_lines judged ended at (whole_lines begun bytes) ≡ (after_line judged ended at (without_cr (begun ++ run)) >>= λ after. after_lines judged ended after (whole_lines [] rest))
  first_line at begun bytes run rest is all =
      ap (λ b. after_lines judged ended at (whole_lines begun b)) is
      ∙ ap (after_lines judged ended at) (whole_lines-first begun run rest all)

  -- where it is taken, the others are judged after it
  pub line_taken : (at after : Progress S) (begun bytes run rest now : List ℕ) → bytes ≡ run ++ 10 ∷ rest → All (λ b. b ≢ 10) run → after_line judged ended at (without_cr (begun ++ run)) ≡ Ok after → now ≡ [] → after_lines judged ended after (whole_lines now rest) ≡ after_lines judged ended at (whole_lines begun bytes)
  line_taken at after begun bytes run rest now is all taken empty =
      ap (λ l. after_lines judged ended after (whole_lines l rest)) empty
      ∙ sym (first_line at begun bytes run rest is all ∙ ap (λ r. r >>= λ next. after_lines judged ended next (whole_lines [] rest)) taken)

  -- where it is faulty, that is the first fault
  pub line_refused : (at : Progress S) (begun bytes run rest : List ℕ) (fault : F) → bytes ≡ run ++ 10 ∷ rest → All (λ b. b ≢ 10) run → after_line judged ended at (without_cr (begun ++ run)) ≡ Err fault → after_lines judged ended at (whole_lines begun bytes) ≡ Err fault
  line_refused at begun bytes run rest fault is all refused =
      first_line at begun bytes run rest is all ∙ ap (λ r. r >>= λ next. after_lines judged ended next (whole_lines [] rest)) refused

-- what is open after it
pub rest_after : (begun bytes run rest now : List ℕ) → bytes ≡ run ++ 10 ∷ rest → All (λ b. b ≢ 10) run → now ≡ [] → open_rest now rest ≡ open_rest begun bytes
rest_after begun bytes run rest now is all empty =
    ap (λ l. open_rest l rest) empty ∙ sym (ap (open_rest begun) is ∙ open_rest-first begun run rest all)
