-- A text that is read piece by piece.
use Rattle.std.specs.Prelude.{◌≡◌, ◌⊎◌, ℕ, List, [], ◌++◌, Option, Some, None, Result, Ok, Err}
use Rattle.std.specs.Result.{result_err}
use Rattle.desk_io.specs.Lines.{whole_lines, last_line, open_rest}
use Rattle.text_lines.specs.Judgement.{Progress, after_lines, value_of_lines}

-- how far the whole lines are judged, the bytes of the line that is open, and the fault that was answered, after which no
-- other is
pub record Reading (S F : Type 0) : Type 0 where
  pub progress : Progress S
  pub begun : List ℕ
  pub refusal : Option F

-- a reading before the first byte
abbrev pub at_start : {S F : Type 0} → S → Reading S F
at_start start = record { progress = record { next = 1; state = start }; begun = []; refusal = None }

-- the fault that was answered, else one that shows now
abbrev pub earlier_fault : {A F : Type 0} → Option F → Result A F → Option F
earlier_fault (Some fault) now = Some fault
earlier_fault None now = result_err now

abbrev pub unless_refused : {A F : Type 0} → Option F → Result A F → Result A F
unless_refused (Some fault) now = Err fault
unless_refused None now = now

module _ {S V F : Type 0} (judged : S → ℕ → List (List ℕ) → Result S F) (ended : S → ℕ → Result V F) where
  -- the first fault that is plain by the end of these bytes
  abbrev pub refused : Reading S F → List ℕ → Option F
  refused reading bytes = earlier_fault reading.refusal (after_lines judged ended reading.progress (whole_lines reading.begun bytes))

  -- what these bytes come to where nothing follows them
  abbrev pub comes_to : Reading S F → List ℕ → Result V F
  comes_to reading bytes =
      unless_refused reading.refusal
      (value_of_lines judged ended reading.progress (whole_lines reading.begun bytes ++ last_line (open_rest reading.begun bytes)))

  -- how a reading may take a piece: up to the end of its whole lines, or to the first fault among them, or to want of memory
  abbrev pub Reads : F → Reading S F → List ℕ → Result (Unit {0}) F → Reading S F → Type 0
  Reads no_memory before piece (Ok done) after =
      (before.refusal ≡ None)
      × (after.refusal ≡ None)
      × (after_lines judged ended before.progress (whole_lines before.begun piece) ≡ Ok after.progress)
      × (after.begun ≡ open_rest before.begun piece)
  Reads no_memory before piece (Err fault) after =
      (after.refusal ≡ Some fault)
      × ((before.refusal ≡ Some fault)
      ⊎ ((before.refusal ≡ None)
      × ((fault ≡ no_memory) ⊎ (after_lines judged ended before.progress (whole_lines before.begun piece) ≡ Err fault))))
