-- Lines of a counted text to which no rule applies.
use Rattle.std.proofs.Common.{◌≡◌, ℕ, ◌+◌, true, false, List, [], ◌∷◌, ◌++◌, length, Some, None, Ok, ap, ◌∙◌}
use Rattle.std.specs.Prelude.{◌==◌, not, is_some}
use Rattle.std.specs.Option.{ok_or}
use Rattle.std.proofs.lemmas.Bool.{eq-eqb}
use Rattle.text_lines.specs.Words.{words_of, numbers_of}
use Rattle.text_lines.specs.Judgement.{◌>>=◌}
use Rattle.dimacs_text.specs.Counted.{Wording, Counted, last_of, are_within, after_words, refuse, refuse_by, ◌>>◌, numbers_in, declared_counts, line_numbers, problem_line, letter_line}
use Rattle.dimacs_text.specs.declared.fault.TextKind.TheVariants.{SecondProblem, NoProblem, BadField, BadNumber, TooMany, Count}

pub numbers_taken : (places : ℕ) (words : List (List ℕ)) (ns : List ℕ) → length words ≡ places → numbers_of words ≡ Some ns → numbers_in places words ≡ Ok ns
numbers_taken places words ns count are =
    ap (λ t. refuse (not t) BadField >> ok_or (numbers_of words) BadNumber) (eq-eqb (length words) places count)
    ∙ ap (λ o. ok_or o BadNumber) are

pub declared_taken : (w : Wording) (words after : List (List ℕ)) (counts : List ℕ) → after_words (words_of w.fixed) words ≡ Some after → numbers_in (length w.limits) after ≡ Ok counts → are_within w.limits counts ≡ true → declared_counts w words ≡ Ok counts
declared_taken w words after counts is_after are within =
    ap (λ o. ok_or o BadField >>= λ prefix. numbers_in (length w.limits) prefix >>= λ ns. refuse (not (are_within w.limits ns)) TooMany >> Ok ns) is_after
    ∙ ap (λ r. r >>= λ ns. refuse (not (are_within w.limits ns)) TooMany >> Ok ns) are
    ∙ ap (λ t. refuse (not t) TooMany >> Ok counts) within

pub problem_taken : {T : Type 0} (w : Wording) (so_far : Counted T) (words : List (List ℕ)) (counts : List ℕ) → so_far.counts ≡ None → declared_counts w words ≡ Ok counts → problem_line w so_far words ≡ Ok (record so_far { counts = Some counts })
problem_taken w so_far words counts none declared =
    ap (λ o. refuse (is_some o) SecondProblem >> (declared_counts w words >>= λ cs. Ok (record so_far { counts = Some cs }))) none
    ∙ ap (λ r. r >>= λ cs. Ok (record so_far { counts = Some cs })) declared

pub line_taken : (w : Wording) (counts : List ℕ) (words : List (List ℕ)) (numbers : List ℕ) → numbers_in w.numbers words ≡ Ok numbers → w.fault_of counts numbers ≡ None → line_numbers w counts words ≡ Ok numbers
line_taken w counts words numbers are faultless =
    ap (λ r. r >>= λ ns. refuse_by (w.fault_of counts ns) >> Ok ns) are
    ∙ ap (λ o. refuse_by o >> Ok numbers) faultless

pub letter_taken : {T : Type 0} (w : Wording) (so_far : Counted T) (words : List (List ℕ)) (counts numbers : List ℕ) → so_far.counts ≡ Some counts → line_numbers w counts words ≡ Ok numbers → (length so_far.lines == last_of counts) ≡ false → letter_line w so_far words ≡ Ok (record so_far { lines = so_far.lines ++ numbers ∷ [] })
letter_taken w so_far words counts numbers counts_are are room =
    ap (λ o. ok_or o NoProblem >>= λ cs. line_numbers w cs words >>= λ ns. refuse (length so_far.lines == last_of cs) (Count (last_of cs) (last_of cs + 1)) >> Ok (record so_far { lines = so_far.lines ++ ns ∷ [] })) counts_are
    ∙ ap (λ r. r >>= λ ns. refuse (length so_far.lines == last_of counts) (Count (last_of counts) (last_of counts + 1)) >> Ok (record so_far { lines = so_far.lines ++ ns ∷ [] })) are
    ∙ ap (λ t. refuse t (Count (last_of counts) (last_of counts + 1)) >> Ok (record so_far { lines = so_far.lines ++ numbers ∷ [] })) room
