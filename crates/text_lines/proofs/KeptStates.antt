-- What each line keeps holds of what a whole text comes to.
use Rattle.std.proofs.Common.{◌≡◌, ℕ, Bool, true, false, cond, List, [], ◌∷◌, Result, Ok, Err, refl, ap, subst}
use Rattle.desk_io.specs.Lines.{lines_of}
use Rattle.text_lines.specs.Words.{words_of, is_skipped}
use Rattle.text_lines.specs.Judgement.{Progress, ◌>>=◌, number_after, after_line, after_lines, value_of_text}

-- what a step before another was
pub stepped : {A B F : Type 0} (r : Result A F) (f : A → Result B F) (y : B) → (r >>= f) ≡ Ok y → (x : A) × (r ≡ Ok x) × (f x ≡ Ok y)
stepped (Ok x) f y is = (x, refl, is)
stepped (Err fault) f y is = cc

ok_value : {A F : Type 0} (x y : A) → ◌≡◌ {A = Result A F} (Ok x) (Ok y) → x ≡ y
ok_value x y is = cc

module _ {S V F : Type 0} (judged : S → ℕ → List (List ℕ) → Result S F) (ended : S → ℕ → Result V F) (P : S → Type 0) (keeps : (s after : S) (number : ℕ) (words : List (List ℕ)) → P s → judged s number words ≡ Ok after → P after) where
  not_skipped : (skipped : Bool) (s after : S) (number : ℕ) (words : List (List ℕ)) → P s → cond skipped (Ok s) (judged s number words) ≡ Ok after → P after
  not_skipped true s after number words has is = subst P (ok_value {F = F} s after is) has
  not_skipped false s after number words has is = keeps s after number words has is

  line_keeps : (at after : Progress S) (line : List ℕ) → P at.state → after_line judged ended at line ≡ Ok after → P after.state
  line_keeps at after line has is =
      let step = stepped (cond (is_skipped (words_of line)) (Ok at.state) (judged at.state at.next (words_of line))) (λ (state : S). Ok (record { next = number_after at.next; state = state })) after is in
      let state : step.0 ≡ after.state = ap (λ (p : Progress S). p.state) (ok_value {F = F} (record { next = number_after at.next; state = step.0 }) after step.2) in
      subst P state (not_skipped (is_skipped (words_of line)) at.state step.0 at.next (words_of line) has step.1)

  lines_keep : (at after : Progress S) (lines : List (List ℕ)) → P at.state → after_lines judged ended at lines ≡ Ok after → P after.state
  lines_keep at after [] has is = subst P (ap (λ (p : Progress S). p.state) (ok_value {F = F} at after is)) has
  lines_keep at after (line ∷ lines) has is =
      let step = stepped (after_line judged ended at line) (λ (next : Progress S). after_lines judged ended next lines) after is in
      lines_keep step.0 after lines (line_keeps at step.0 line has step.1) step.2

  -- the end finds what each line keeps
  pub text_keeps : (start : S) (text : List ℕ) (value : V) → P start → value_of_text judged ended start text ≡ Ok value → (after : Progress S) × P after.state × (ended after.state after.next ≡ Ok value)
  text_keeps start text value has is =
      let step = stepped (after_lines judged ended (record { next = 1; state = start }) (lines_of text)) (λ (after : Progress S). ended after.state after.next) value is in
      (step.0, lines_keep (record { next = 1; state = start }) step.0 (lines_of text) has step.1, step.2)
