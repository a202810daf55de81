-- A reading keeps what is asked of a reader: it depends on the bytes alone, and a fault that is plain stays.
use Rattle.std.proofs.Common.{◌≡◌, inl, inr, ℕ, List, [], ◌++◌, Option, Some, None, Result, Ok, Err, refl, ap, ◌∙◌, sym}
use Rattle.std.specs.Result.{result_err}
use Rattle.std.proofs.lemmas.List.{append_assoc}
use Rattle.desk_io.specs.Lines.{whole_lines, open_rest, last_line}
use Rattle.desk_io.specs.Reader.{StandsAt, Follows, TakesPiece}
use Rattle.desk_io.proofs.LineCuts.{whole_lines-append, open_rest-append}
use Rattle.text_lines.specs.Judgement.{Progress, ◌>>=◌, after_lines, value_of_lines}
use Rattle.text_lines.specs.TextReading.{Reading, earlier_fault, unless_refused, refused, comes_to, Reads}
use Rattle.text_lines.specs.JudgedLines.{after_lines-append, value_of_lines-append}

module _ {S V F : Type 0} (judged : S → ℕ → List (List ℕ) → Result S F) (ended : S → ℕ → Result V F) where
  -- what the whole lines of a piece leave is what the bytes after it find
  lines_on : (r : Reading S F) (piece more : List ℕ) → after_lines judged ended r.progress (whole_lines r.begun (piece ++ more)) ≡ (after_lines judged ended r.progress (whole_lines r.begun piece) >>= λ after. after_lines judged ended after (whole_lines (open_rest r.begun piece) more))
  lines_on r piece more =
      ap (after_lines judged ended r.progress) (whole_lines-append r.begun piece more)
      ∙ after_lines-append judged ended r.progress (whole_lines r.begun piece) (whole_lines (open_rest r.begun piece) more)

  ends_on : (r : Reading S F) (piece more : List ℕ) → value_of_lines judged ended r.progress (whole_lines r.begun (piece ++ more) ++ last_line (open_rest r.begun (piece ++ more))) ≡ (after_lines judged ended r.progress (whole_lines r.begun piece) >>= λ after. value_of_lines judged ended after (whole_lines (open_rest r.begun piece) more ++ last_line (open_rest (open_rest r.begun piece) more)))
  ends_on r piece more =
      ap (λ ls. value_of_lines judged ended r.progress (ls ++ last_line (open_rest r.begun (piece ++ more)))) (whole_lines-append r.begun piece more)
      ∙ ap (λ rest. value_of_lines judged ended r.progress ((whole_lines r.begun piece ++ whole_lines (open_rest r.begun piece) more) ++ last_line rest)) (open_rest-append r.begun piece more)
      ∙ ap (value_of_lines judged ended r.progress) (append_assoc (whole_lines r.begun piece) (whole_lines (open_rest r.begun piece) more) (last_line (open_rest (open_rest r.begun piece) more)))
      ∙ value_of_lines-append judged ended r.progress (whole_lines r.begun piece) (whole_lines (open_rest r.begun piece) more ++ last_line (open_rest (open_rest r.begun piece) more))

  -- at a fault among the lines, whatever follows them
  at_fault : (r : Reading S F) (piece more : List ℕ) (fault : F) → r.refusal ≡ None → after_lines judged ended r.progress (whole_lines r.begun piece) ≡ Err fault → StandsAt (refused judged ended) (comes_to judged ended) r (piece ++ more) fault
  at_fault r piece more fault fresh is = (
    ap (λ old. earlier_fault old (after_lines judged ended r.progress (whole_lines r.begun (piece ++ more)))) fresh
        ∙ ap result_err (lines_on r piece more ∙ ap (λ l. l >>= λ after. after_lines judged ended after (whole_lines (open_rest r.begun piece) more)) is),
    ap (λ old. unless_refused old (value_of_lines judged ended r.progress (whole_lines r.begun (piece ++ more) ++ last_line (open_rest r.begun (piece ++ more))))) fresh
        ∙ ends_on r piece more
        ∙ ap (λ l. l >>= λ after. value_of_lines judged ended after (whole_lines (open_rest r.begun piece) more ++ last_line (open_rest (open_rest r.begun piece) more))) is,
  )

  -- at the fault that it answered
  at_refusal : (r : Reading S F) (bytes : List ℕ) (fault : F) → r.refusal ≡ Some fault → StandsAt (refused judged ended) (comes_to judged ended) r bytes fault
  at_refusal r bytes fault is = (
    ap (λ old. earlier_fault old (after_lines judged ended r.progress (whole_lines r.begun bytes))) is,
    ap (λ old. unless_refused old (value_of_lines judged ended r.progress (whole_lines r.begun bytes ++ last_line (open_rest r.begun bytes)))) is,
  )

  follows : (old new : Reading S F) (piece : List ℕ) → old.refusal ≡ None → new.refusal ≡ None → after_lines judged ended old.progress (whole_lines old.begun piece) ≡ Ok new.progress → new.begun ≡ open_rest old.begun piece → Follows (refused judged ended) (comes_to judged ended) old piece new
  follows old new piece old_fresh new_fresh lines rest = record {
    refuses = λ more.
        ap (λ r. earlier_fault r (after_lines judged ended new.progress (whole_lines new.begun more))) new_fresh
        ∙ ap (λ l. result_err (after_lines judged ended new.progress (whole_lines l more))) rest
        ∙ sym (ap (λ r. earlier_fault r (after_lines judged ended old.progress (whole_lines old.begun (piece ++ more)))) old_fresh
        ∙ ap result_err (lines_on old piece more ∙ ap (λ l. l >>= λ after. after_lines judged ended after (whole_lines (open_rest old.begun piece) more)) lines));
    comes = λ more.
        ap (λ r. unless_refused r (value_of_lines judged ended new.progress (whole_lines new.begun more ++ last_line (open_rest new.begun more)))) new_fresh
        ∙ ap (λ l. value_of_lines judged ended new.progress (whole_lines l more ++ last_line (open_rest l more))) rest
        ∙ sym (ap (λ r. unless_refused r (value_of_lines judged ended old.progress (whole_lines old.begun (piece ++ more) ++ last_line (open_rest old.begun (piece ++ more))))) old_fresh
        ∙ ends_on old piece more
        ∙ ap (λ l. l >>= λ after. value_of_lines judged ended after (whole_lines (open_rest old.begun piece) more ++ last_line (open_rest (open_rest old.begun piece) more))) lines);
  }

  -- the fault of one who had refused is the one before
  same_fault : (old : Reading S F) (fault before : F) → old.refusal ≡ Some fault → refused judged ended old [] ≡ Some before → fault ≡ before
  same_fault old fault before is shown = let now = (at_refusal old [] fault is).0 in cc

  not_before : (old : Reading S F) (before : F) → old.refusal ≡ None → refused judged ended old [] ≡ Some before → ⊥
  not_before old before fresh shown =
      let now : refused judged ended old [] ≡ None = ap (λ r. earlier_fault r (after_lines judged ended old.progress [])) fresh in cc

  pub takes_piece : (no_memory : F) (old new : Reading S F) (piece : List ℕ) (answer : Result (Unit {0}) F) → Reads judged ended no_memory old piece answer new → TakesPiece (refused judged ended) (comes_to judged ended) no_memory old piece answer new
  takes_piece no_memory old new piece (Ok done) reads = (
    ap (λ r. earlier_fault r (after_lines judged ended old.progress [])) reads.0,
    ap (λ r. earlier_fault r (after_lines judged ended old.progress (whole_lines old.begun piece))) reads.0 ∙ ap result_err reads.2,
    follows old new piece reads.0 reads.1 reads.2 reads.3,
  )
  takes_piece no_memory old new piece (Err fault) reads = (
    elim reads.1 [
      | inl stood ↦ inr (at_refusal old piece fault stood).0
      | inr fresh ↦ elim fresh.1 [
        | inl none ↦ inl none
        | inr shows ↦ inr (ap (λ r. earlier_fault r (after_lines judged ended old.progress (whole_lines old.begun piece))) fresh.0 ∙ ap result_err shows)
      ]
    ],
    λ before shown. elim reads.1 [
      | inl stood ↦ same_fault old fault before stood shown
      | inr fresh ↦ absurd (not_before old before fresh.0 shown)
    ],
    λ more. at_refusal new more fault reads.0,
  )

  -- the fault among the lines of a fresh reading
  shown_fault : (r : Result (Progress S) F) (fault : F) → result_err r ≡ Some fault → r ≡ Err fault
  shown_fault (Ok at) fault is = cc
  shown_fault (Err other) fault is = cc

  lasts_after : (refusal : Option F) (r : Reading S F) (bytes more : List ℕ) (fault : F) → r.refusal ≡ refusal → earlier_fault refusal (after_lines judged ended r.progress (whole_lines r.begun bytes)) ≡ Some fault → StandsAt (refused judged ended) (comes_to judged ended) r (bytes ++ more) fault
  lasts_after None r bytes more fault is shown = at_fault r bytes more fault is (shown_fault _ fault shown)
  lasts_after (Some other) r bytes more fault is shown = at_refusal r (bytes ++ more) fault (is ∙ shown)

  pub lasts : (r : Reading S F) (bytes more : List ℕ) (fault : F) → refused judged ended r bytes ≡ Some fault → StandsAt (refused judged ended) (comes_to judged ended) r (bytes ++ more) fault
  lasts r bytes more fault shown = lasts_after r.refusal r bytes more fault refl shown
