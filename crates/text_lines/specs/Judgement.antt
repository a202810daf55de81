-- How a text is judged, line by line: what the words of a line make of what came before, or the fault that they have.
use Rattle.std.specs.Prelude.{◌≡◌, ◌⊎◌, ℕ, ◌+◌, ◌-◌, ◌^◌, min, List, [], ◌∷◌, Option, Result, Ok, Err, if◌then◌else◌}
use Rattle.std.specs.Result.{result_err}
use Rattle.desk_io.specs.Lines.{whole_lines, lines_of}
use Rattle.text_lines.specs.Words.{words_of, is_skipped}

-- the number of the line after a line; lines count from 1, and the count stands still at 2^64 - 1
abbrev pub number_after : ℕ → ℕ
number_after number = min (number + 1) (2 ^ 64 - 1)

-- how far a text is judged: the number of the next line, and what the lines before it came to
pub record Progress (S : Type 0) : Type 0 where
  pub next : ℕ
  pub state : S

infixl 10 ◌>>=◌
abbrev pub ◌>>=◌ : {A B F : Type 0} → Result A F → (A → Result B F) → Result B F
(Ok x) >>= f = f x
(Err fault) >>= f = Err fault

-- `judged` says what the words of the line with a number make of a state, and `ended` what the end with a number makes of it
module _ {S V F : Type 0} (judged : S → ℕ → List (List ℕ) → Result S F) (ended : S → ℕ → Result V F) where
  -- after one line more, which is counted and, where it is blank or a comment, skipped
  abbrev pub after_line : Progress S → List ℕ → Result (Progress S) F
  after_line at line =
      (if is_skipped (words_of line) then Ok at.state else judged at.state at.next (words_of line))
      >>= λ state. Ok (record { next = number_after at.next; state = state })

  -- after some lines more, or the first fault among them
  abbrev pub after_lines : Progress S → List (List ℕ) → Result (Progress S) F
  after_lines at [] = Ok at
  after_lines at (line ∷ lines) = after_line at line >>= λ after. after_lines after lines

  -- what some lines more and then the end come to
  abbrev pub value_of_lines : Progress S → List (List ℕ) → Result V F
  value_of_lines at lines = after_lines at lines >>= λ after. ended after.state after.next

  -- what a whole text comes to
  abbrev pub value_of_text : S → List ℕ → Result V F
  value_of_text start text = value_of_lines (record { next = 1; state = start }) (lines_of text)

  -- the first fault among the lines of a text that an LF ends
  abbrev pub fault_within : S → List ℕ → Option F
  fault_within start text = result_err (after_lines (record { next = 1; state = start }) (whole_lines [] text))

  module _ (no_memory : F) where
    -- how one who judges may take a line: as it is judged, but for want of memory
    abbrev pub TakesLine : S → ℕ → List (List ℕ) → Result (Unit {0}) F → S → Type 0
    TakesLine before number words (Ok done) after = judged before number words ≡ Ok after
    TakesLine before number words (Err fault) after = (fault ≡ no_memory) ⊎ (judged before number words ≡ Err fault)

    -- and how the end
    abbrev pub TakesEnd : S → ℕ → Result V F → Type 0
    TakesEnd before number (Ok value) = ended before number ≡ Ok value
    TakesEnd before number (Err fault) = (fault ≡ no_memory) ⊎ (ended before number ≡ Err fault)
