-- The words and lines of a text that is printed: words without blanks, one space between two, and one LF after each line.
use Rattle.std.proofs.Common.{◌≡◌, ◌≢◌, inl, inr, ℕ, ◌^◌, ◌<◌, ◌≤◌, true, false, eqb, All, List, [], ◌∷◌, ◌++◌, length, Some, refl, ap, sym, ◌∙◌, arith}
use Rattle.std.specs.Fmt.{decimal}
use Rattle.std.specs.List.{AllByRecursion}
use Rattle.std.specs.Str.{all_ascii_digits}
use Rattle.std.specs.Str.Parse.{AllDigits}
use Rattle.std.proofs.lemmas.Bool.Decides.{eqb_tells}
use Rattle.std.proofs.lemmas.Fmt.{decimal_is_IsNumeral}
use Rattle.std.proofs.lemmas.List.{append_assoc, append-nil}
use Rattle.std.proofs.lemmas.List.Elements.{All-from_recursion}
use Rattle.std.proofs.lemmas.Str.Parse.{digit_from_value}
use Rattle.desk_io.specs.Lines.{without_cr, whole_lines, open_rest}
use Rattle.desk_io.proofs.LineCuts.{whole_lines-first, open_rest-first}
use Rattle.desk_io.proofs.LineEnds.{without_cr-keep}
use Rattle.text_lines.specs.Words.{is_blank, word_if_any, words_after, words_of, number_of}
use Rattle.text_lines.proofs.Digits.{digit_in_range, number_of-prefix}

-- bytes that part no words
abbrev pub IsSolid : List ℕ → Type 0
IsSolid word = AllByRecursion (λ b. 32 < b) word

-- bytes that end no line
abbrev pub IsPrintable : List ℕ → Type 0
IsPrintable line = AllByRecursion (λ b. 32 ≤ b) line

apart : (x y : ℕ) → y < x → eqb x y ≡ false
apart x y above = elim (eqb_tells x y) [ inl same ↦ absurd (omega (arith, same.1)) | inr differ ↦ differ.0 ]

not_blank : (b : ℕ) → 32 < b → is_blank b ≡ false
not_blank b solid = rw (apart b 32 solid, apart b 9 (omega arith)) refl

solid_run : (begun word rest : List ℕ) → IsSolid word → words_after begun (word ++ rest) ≡ words_after (begun ++ word) rest
solid_run begun [] rest solid = ap (λ w. words_after w rest) (sym (append-nil begun))
solid_run begun (b ∷ word) rest solid =
    let goes_on : words_after begun (b ∷ (word ++ rest)) ≡ words_after (begun ++ b ∷ []) (word ++ rest) = rw (not_blank b solid.0) refl in
    goes_on ∙ solid_run (begun ++ b ∷ []) word rest solid.1 ∙ ap (λ w. words_after w rest) (append_assoc begun (b ∷ []) word)

any_word : (word : List ℕ) → 0 < length word → word_if_any word ≡ word ∷ []
any_word [] some = absurd (omega arith)
any_word (b ∷ word) some = refl

-- a word, a space and other words
pub words_of-parted : (word rest : List ℕ) → 0 < length word → IsSolid word → words_of (word ++ 32 ∷ rest) ≡ word ∷ words_of rest
words_of-parted word rest some solid = solid_run [] word (32 ∷ rest) solid ∙ ap (λ ws. ws ++ words_of rest) (any_word word some)

-- the last word
pub words_of-last : (word : List ℕ) → 0 < length word → IsSolid word → words_of word ≡ word ∷ []
words_of-last word some solid = ap words_of (sym (append-nil word)) ∙ solid_run [] word [] solid ∙ any_word word some

pub IsPrintable-append : (xs ys : List ℕ) → IsPrintable xs → IsPrintable ys → IsPrintable (xs ++ ys)
IsPrintable-append [] ys prefix back = back
IsPrintable-append (x ∷ xs) ys prefix back = (prefix.0, IsPrintable-append xs ys prefix.1 back)

pub IsPrintable-from_solid : (word : List ℕ) → IsSolid word → IsPrintable word
IsPrintable-from_solid [] solid = tt
IsPrintable-from_solid (b ∷ word) solid = (omega (arith, solid.0), IsPrintable-from_solid word solid.1)

no_lf : (line : List ℕ) → IsPrintable line → All (λ b. b ≢ 10) line
no_lf line print = λ k d h is. absurd (omega (arith, All-from_recursion (λ b. 32 ≤ b) line print k d h))

no_cr : (line : List ℕ) → IsPrintable line → without_cr line ≡ line
no_cr line print = sym (without_cr-keep line (λ k size is. absurd (omega (arith, All-from_recursion (λ b. 32 ≤ b) line print k 0 (omega arith)))))

-- a line, an LF and other lines
pub whole_lines-printed : (line rest : List ℕ) → IsPrintable line → whole_lines [] (line ++ 10 ∷ rest) ≡ line ∷ whole_lines [] rest
whole_lines-printed line rest print = whole_lines-first [] line rest (no_lf line print) ∙ ap (λ l. l ∷ whole_lines [] rest) (no_cr line print)

pub open_rest-printed : (line rest : List ℕ) → IsPrintable line → open_rest [] (line ++ 10 ∷ rest) ≡ open_rest [] rest
open_rest-printed line rest print = open_rest-first [] line rest (no_lf line print)

-- digits are solid
digits_solid : (ds : List ℕ) → AllDigits 10 ds → (all_ascii_digits ds ≡ true) × IsSolid ds
digits_solid [] all = (refl, tt)
digits_solid (d ∷ ds) all =
    let range = digit_from_value d all.0 in
    let after = digits_solid ds all.1 in
    (rw (digit_in_range d range.0 range.1) after.0, (omega (arith, range.0), after.1))

-- a printed number is a word that is that number
pub record PrintsNumber (n : ℕ) : Type 0 where
  pub some : 0 < length (decimal n)
  pub solid : IsSolid (decimal n)
  pub number : number_of (decimal n) ≡ Some n

pub decimal_prints : (n : ℕ) → n < 2 ^ 64 → PrintsNumber n
decimal_prints n small =
    let numeral = decimal_is_IsNumeral n small in
    let digits = digits_solid (decimal n) numeral.0.1 in
    record { some = numeral.0.0; solid = digits.1; number = number_of-prefix (decimal n) numeral.0.0 digits.0 ∙ ap Some numeral.1 }
