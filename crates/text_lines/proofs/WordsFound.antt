-- Where the first word of a line is.
use Rattle.std.proofs.Common.{◌≡◌, ℕ, ◌+◌, ◌<◌, true, false, cond, eqb, List, [], ◌∷◌, ◌++◌, length, get_or, take, drop, refl, ap, ◌∙◌, arith, add-one, drop-cons}
use Rattle.std.proofs.lemmas.List.{take_more}
use Rattle.text_lines.specs.Words.{is_blank, word_if_any, words_after, words_of, is_skipped}

-- a blank at the start is no part of a word
pub words_of-blank : (line : List ℕ) (i : ℕ) → i < length line → is_blank (get_or line i 0) ≡ true → words_of (drop (i + 1) line) ≡ words_of (drop i line)
words_of-blank line i inside blank =
    let is_cons = drop-cons line i 0 inside in
    rw (is_cons, blank, add-one) refl

-- any other byte goes on with the word
pub words_after-byte : (line : List ℕ) (i : ℕ) → i < length line → is_blank (get_or line i 0) ≡ false → words_after (take (i + 1) line) (drop (i + 1) line) ≡ words_after (take i line) (drop i line)
words_after-byte line i inside other =
    let is_cons = drop-cons line i 0 inside in
    rw (is_cons, other, take_more line i 0 inside, add-one) refl

-- and a blank ends it
pub words_after-blank : (begun line : List ℕ) (i : ℕ) → i < length line → is_blank (get_or line i 0) ≡ true → words_after begun (drop i line) ≡ word_if_any begun ++ words_of (drop i line)
words_after-blank begun line i inside blank =
    let is_cons = drop-cons line i 0 inside in
    rw (is_cons, blank) refl

-- a line that begins with a byte that is no blank is a comment where that byte is `c`
skipped_by_first : (b : ℕ) (begun line : List ℕ) → is_skipped (words_after (b ∷ begun) line) ≡ eqb b 99
skipped_by_first b begun [] = refl
skipped_by_first b begun (x ∷ line) =
    elim (is_blank x) as (λ t. is_skipped (cond t (((b ∷ begun) ∷ []) ++ words_after [] line) (words_after ((b ∷ begun) ++ x ∷ []) line)) ≡ eqb b 99) [
      | true ↦ refl
      | false ↦ skipped_by_first b (begun ++ x ∷ []) line
    ]

pub is_skipped-first : (line : List ℕ) → 0 < length line → is_blank (get_or line 0 0) ≡ false → is_skipped (words_of line) ≡ eqb (get_or line 0 0) 99
is_skipped-first [] some other = absurd (omega arith)
is_skipped-first (b ∷ line) some other =
    let begins : words_after [] (b ∷ line) ≡ words_after (b ∷ []) line = rw other refl in
    ap is_skipped begins ∙ skipped_by_first b [] line
