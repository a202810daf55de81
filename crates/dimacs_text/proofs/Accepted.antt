-- The lines of a counted text that is accepted have no fault.
use Rattle.std.proofs.Common.{◌≡◌, ℕ, suc, ◌+◌, Bool, true, false, cond, List, [], ◌∷◌, ◌++◌, length, Option, Some, None, Result, Ok, Err, refl, ap, subst, sym, ◌∙◌, arith}
use Rattle.std.specs.Prelude.{◌==◌, nat_lt, not, is_some, option_and_then}
use Rattle.std.specs.Option.{ok_or}
use Rattle.std.specs.Str.{bytes_eq}
use Rattle.std.proofs.lemmas.Bool.{eqb-true}
use Rattle.std.proofs.lemmas.List.Elements.{All-push}
use Rattle.text_lines.specs.Words.{words_of, number_of, numbers_of}
use Rattle.text_lines.specs.Judgement.{◌>>=◌, value_of_text}
use Rattle.text_lines.proofs.KeptStates.{stepped, text_keeps}
use Rattle.dimacs_text.specs.Counted.{Wording, Counted, AreAccepted, last_of, are_within, after_words, refuse, refuse_by, ◌>>◌, numbers_in, declared_counts, line_numbers, problem_line, letter_line, counted_line, counted_end, in_line, counted_judged, counted_ended, none_yet}
use Rattle.dimacs_text.specs.declared.fault.TextKind.{TextKind}
use Rattle.dimacs_text.specs.declared.fault.TextKind.TheVariants.{SecondProblem, NoProblem, BadField, BadNumber, TooMany, Count, UnknownLine}
use Rattle.dimacs_text.specs.declared.fault.TextFault.{TextFault}

-- what lies after a rule that doesn't apply
pub passed : {A : Type 0} (test : Bool) (kind : TextKind) (rules : Result A TextKind) (x : A) → (refuse test kind >> rules) ≡ Ok x → (test ≡ false) × (rules ≡ Ok x)
passed true kind rules x is = cc
passed false kind rules x is = (refl, is)

passed_by : {A : Type 0} (fault : Option TextKind) (rules : Result A TextKind) (x : A) → (refuse_by fault >> rules) ≡ Ok x → (fault ≡ None) × (rules ≡ Ok x)
passed_by (Some kind) rules x is = cc
passed_by None rules x is = (refl, is)

pub ok_value : {A F : Type 0} (x y : A) → ◌≡◌ {A = Result A F} (Ok x) (Ok y) → x ≡ y
ok_value x y is = cc

there : {A : Type 0} (found : Option A) (kind : TextKind) (x : A) → ok_or found kind ≡ Ok x → found ≡ Some x
there None kind x is = cc
there (Some y) kind x is = cc

not_false : (test : Bool) → not test ≡ false → test ≡ true
not_false true is = refl
not_false false is = cc

word_more : (first : Option ℕ) (more : Option (List ℕ)) (k : ℕ) → ((ms : List ℕ) → more ≡ Some ms → length ms ≡ k) → (ns : List ℕ) → option_and_then (λ n. option_and_then (λ ms. Some (n ∷ ms)) more) first ≡ Some ns → length ns ≡ suc k
word_more None more k after ns is = cc
word_more (Some n) None k after ns is = cc
word_more (Some n) (Some ms) k after ns is =
    let same : n ∷ ms ≡ ns = cc in
    ap length (sym same) ∙ ap suc (after ms refl)

-- there are as many numbers as words
pub length-numbers_of : (words : List (List ℕ)) (ns : List ℕ) → numbers_of words ≡ Some ns → length ns ≡ length words
length-numbers_of [] ns is = let none : [] ≡ ns = cc in ap length (sym none)
length-numbers_of (word ∷ words) ns is = word_more (number_of word) (numbers_of words) (length words) (λ ms e. length-numbers_of words ms e) ns is

numbers_in_shown : (places : ℕ) (words : List (List ℕ)) (ns : List ℕ) → numbers_in places words ≡ Ok ns → length ns ≡ places
numbers_in_shown places words ns is =
    let rule = passed (not (length words == places)) BadField (ok_or (numbers_of words) BadNumber) ns is in
    let count : length words ≡ places = eqb-true (length words) places (not_false (length words == places) rule.0) in
    length-numbers_of words ns (there (numbers_of words) BadNumber ns rule.1) ∙ count

declared_shown : (w : Wording) (words : List (List ℕ)) (counts : List ℕ) → declared_counts w words ≡ Ok counts → (length counts ≡ length w.limits) × (are_within w.limits counts ≡ true)
declared_shown w words counts is =
    let prefix = stepped (ok_or (after_words (words_of w.fixed) words) BadField) (λ (after : List (List ℕ)). numbers_in (length w.limits) after >>= λ ns. refuse (not (are_within w.limits ns)) TooMany >> Ok ns) counts is in
    let read = stepped (numbers_in (length w.limits) prefix.0) (λ (ns : List ℕ). refuse (not (are_within w.limits ns)) TooMany >> Ok ns) counts prefix.2 in
    let rule = passed (not (are_within w.limits read.0)) TooMany (Ok read.0) counts read.2 in
    let same : read.0 ≡ counts = ok_value {F = TextKind} read.0 counts rule.1 in
    (ap length (sym same) ∙ numbers_in_shown (length w.limits) prefix.0 read.0 read.1, ap (are_within w.limits) (sym same) ∙ not_false (are_within w.limits read.0) rule.0)

line_shown : (w : Wording) (counts : List ℕ) (words : List (List ℕ)) (numbers : List ℕ) → line_numbers w counts words ≡ Ok numbers → (length numbers ≡ w.numbers) × (w.fault_of counts numbers ≡ None)
line_shown w counts words numbers is =
    let read = stepped (numbers_in w.numbers words) (λ (ns : List ℕ). refuse_by (w.fault_of counts ns) >> Ok ns) numbers is in
    let rule = passed_by (w.fault_of counts read.0) (Ok read.0) numbers read.2 in
    let same : read.0 ≡ numbers = ok_value {F = TextKind} read.0 numbers rule.1 in
    (ap length (sym same) ∙ numbers_in_shown w.numbers words read.0 read.1, ap (w.fault_of counts) (sym same) ∙ rule.0)

-- the lines so far have no fault, and stand after a `p` line
pub record Stands {T : Type 0} (w : Wording) (so_far : Counted T) : Type 0 where
  pub none : so_far.counts ≡ None → so_far.lines ≡ []
  pub some : (counts : List ℕ) → so_far.counts ≡ Some counts → AreAccepted w counts so_far.lines

-- as a line leaves them
abbrev LeavesStanding : {T : Type 0} → Wording → Counted T → Counted T → Type 0
LeavesStanding w so_far after = (after.text ≡ so_far.text) × Stands w after

no_counts : (counts : Option (List ℕ)) → is_some counts ≡ false → counts ≡ None
no_counts None is = refl
no_counts (Some counts) is = cc

problem_stands : {T : Type 0} (w : Wording) (so_far after : Counted T) (words : List (List ℕ)) → Stands w so_far → problem_line w so_far words ≡ Ok after → LeavesStanding w so_far after
problem_stands {T} w so_far after words stands is =
    let rule = passed (is_some so_far.counts) SecondProblem (declared_counts w words >>= λ counts. Ok (record so_far { counts = Some counts })) after is in
    let read = stepped (declared_counts w words) (λ (counts : List ℕ). Ok (record so_far { counts = Some counts })) after rule.1 in
    let same : record so_far { counts = Some read.0 } ≡ after = ok_value {F = TextKind} (record so_far { counts = Some read.0 }) after read.2 in
    let shown = declared_shown w words read.0 read.1 in
    let empty : so_far.lines ≡ [] = stands.none (no_counts so_far.counts rule.0) in
    let accepted : AreAccepted w read.0 so_far.lines = record {
      counted = shown.0;
      within = shown.1;
      numbers = λ k d h. absurd (omega (arith, ap length empty));
      faultless = λ k d h. absurd (omega (arith, ap length empty));
    } in
    subst (LeavesStanding w so_far) same (
      refl,
      record {
        none = λ e. cc;
        some = λ counts e. let one : read.0 ≡ counts = cc in subst (λ c. AreAccepted w c so_far.lines) one accepted;
      },
    )

letter_stands : {T : Type 0} (w : Wording) (so_far after : Counted T) (words : List (List ℕ)) → Stands w so_far → letter_line w so_far words ≡ Ok after → LeavesStanding w so_far after
letter_stands {T} w so_far after words stands is =
    let prefix = stepped (ok_or so_far.counts NoProblem) (λ (counts : List ℕ). line_numbers w counts words >>= λ numbers. refuse (length so_far.lines == last_of counts) (Count (last_of counts) (last_of counts + 1)) >> Ok (record so_far { lines = so_far.lines ++ numbers ∷ [] })) after is in
    let read = stepped (line_numbers w prefix.0 words) (λ (numbers : List ℕ). refuse (length so_far.lines == last_of prefix.0) (Count (last_of prefix.0) (last_of prefix.0 + 1)) >> Ok (record so_far { lines = so_far.lines ++ numbers ∷ [] })) after prefix.2 in
    let rule = passed (length so_far.lines == last_of prefix.0) (Count (last_of prefix.0) (last_of prefix.0 + 1)) (Ok (record so_far { lines = so_far.lines ++ read.0 ∷ [] })) after read.2 in
    let same : record so_far { lines = so_far.lines ++ read.0 ∷ [] } ≡ after = ok_value {F = TextKind} (record so_far { lines = so_far.lines ++ read.0 ∷ [] }) after rule.1 in
    let counts_are : so_far.counts ≡ Some prefix.0 = there so_far.counts NoProblem prefix.0 prefix.1 in
    let before = stands.some prefix.0 counts_are in
    let shown = line_shown w prefix.0 words read.0 read.1 in
    let accepted : AreAccepted w prefix.0 (so_far.lines ++ read.0 ∷ []) = record {
      counted = before.counted;
      within = before.within;
      numbers = All-push (λ numbers. length numbers ≡ w.numbers) so_far.lines read.0 before.numbers shown.0;
      faultless = All-push (λ numbers. w.fault_of prefix.0 numbers ≡ None) so_far.lines read.0 before.faultless shown.1;
    } in
    subst (LeavesStanding w so_far) same (
      refl,
      record {
        none = λ e. cc;
        some = λ counts e. let one : prefix.0 ≡ counts = cc in subst (λ c. AreAccepted w c (so_far.lines ++ read.0 ∷ [])) one accepted;
      },
    )

one_of_both : {T : Type 0} (w : Wording) (so_far after : Counted T) (words : List (List ℕ)) (problem letter : Bool) → Stands w so_far → cond problem (problem_line w so_far words) (cond letter (letter_line w so_far words) (Err UnknownLine)) ≡ Ok after → LeavesStanding w so_far after
one_of_both w so_far after words true letter stands is = problem_stands w so_far after words stands is
one_of_both w so_far after words false true stands is = letter_stands w so_far after words stands is
one_of_both w so_far after words false false stands is = cc

pub line_stands : {T : Type 0} (w : Wording) (so_far after : Counted T) (words : List (List ℕ)) → Stands w so_far → counted_line w so_far words ≡ Ok after → (after.text ≡ so_far.text) × Stands w after
line_stands w so_far after [] stands is = cc
line_stands w so_far after (word ∷ words) stands is =
    one_of_both w so_far after words (bytes_eq word (112 ∷ [])) (bytes_eq word (w.letter ∷ [])) stands is

in_line_shown : {A F : Type 0} (fault : TextFault → F) (number : ℕ) (r : Result A TextKind) (x : A) → in_line fault number r ≡ Ok x → r ≡ Ok x
in_line_shown fault number (Ok y) x is = ap Ok (ok_value y x is)
in_line_shown fault number (Err kind) x is = cc

end_shown : {T : Type 0} (so_far : Counted T) (counts : List ℕ) → counted_end so_far ≡ Ok counts → so_far.counts ≡ Some counts
end_shown so_far counts is =
    let prefix = stepped (ok_or so_far.counts NoProblem) (λ (cs : List ℕ). refuse (nat_lt (length so_far.lines) (last_of cs)) (Count (last_of cs) (length so_far.lines)) >> Ok cs) counts is in
    let rule = passed (nat_lt (length so_far.lines) (last_of prefix.0)) (Count (last_of prefix.0) (length so_far.lines)) (Ok prefix.0) counts prefix.2 in
    there so_far.counts NoProblem prefix.0 prefix.1 ∙ ap Some (ok_value {F = TextKind} prefix.0 counts rule.1)

-- what a whole text stands for comes of accepted lines
module _ {T V F : Type 0} (wording : T → Wording) (fault : TextFault → F) (value_of : T → List ℕ → List (List ℕ) → Result V F) where
  abbrev StandsFor : T → Counted T → Type 0
  StandsFor text so_far = (so_far.text ≡ text) × Stands (wording text) so_far

  keeps : (text : T) (s after : Counted T) (number : ℕ) (words : List (List ℕ)) → StandsFor text s → counted_judged wording fault value_of s number words ≡ Ok after → StandsFor text after
  keeps text s after number words stands is =
      let line = in_line_shown fault number (counted_line (wording s.text) s words) after is in
      let kept = line_stands (wording s.text) s after words (subst (λ t. Stands (wording t) s) (sym stands.0) stands.1) line in
      (kept.0 ∙ stands.0, subst (λ t. Stands (wording t) after) stands.0 kept.1)

  pub accepted_text : (text : T) (bytes : List ℕ) (value : V) → value_of_text (counted_judged wording fault value_of) (counted_ended wording fault value_of) (none_yet text) bytes ≡ Ok value → (counts : List ℕ) × (lines : List (List ℕ)) × AreAccepted (wording text) counts lines × (value_of text counts lines ≡ Ok value)
  accepted_text text bytes value is =
      let none : StandsFor text (none_yet text) = (refl, record { none = λ e. refl; some = λ counts e. cc }) in
      let end = text_keeps (counted_judged wording fault value_of) (counted_ended wording fault value_of) (StandsFor text) (keeps text) (none_yet text) bytes value none is in
      let so_far = end.0.state in
      let step = stepped (in_line fault end.0.next (counted_end end.0.state)) (λ (counts : List ℕ). value_of end.0.state.text counts end.0.state.lines) value end.2 in
      let counts_are = end_shown end.0.state step.0 (in_line_shown fault end.0.next (counted_end end.0.state) step.0 step.1) in
      (step.0, so_far.lines, end.1.1.some step.0 counts_are, ap (λ t. value_of t step.0 end.0.state.lines) (sym end.1.0) ∙ step.2)
