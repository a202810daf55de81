-- The number that a word is, digit by digit.
use Rattle.std.proofs.Common.{◌≡◌, inl, inr, ℕ, ◌+◌, ◌*◌, ◌<◌, ◌≤◌, Bool, true, false, cond, eqb, leb, Option, Some, None, List, [], ◌∷◌, ◌++◌, length, get_or, take, drop, refl, ap, sym, ◌∙◌, arith, drop-cons, add-one}
use Rattle.std.specs.Prelude.{if◌then◌else◌, ◌&&◌}
use Rattle.std.proofs.lemmas.Bool.{le-leb, leb-true}
use Rattle.std.proofs.lemmas.Bool.Decides.{eqb_tells}
use Rattle.std.proofs.Math.Bool.{and-true, and_assoc}
use Rattle.std.proofs.lemmas.List.{take_more}
use Rattle.std.specs.Char.{is_ascii_digit, digit_value}
use Rattle.std.specs.Str.{all_ascii_digits}
use Rattle.std.specs.Str.Parse.{digits_value, digits_value_after}
use Rattle.text_lines.specs.Words.{is_blank, number_of}

-- a byte from `0` to `9` is a digit
pub digit_in_range : (b : ℕ) → 48 ≤ b → b ≤ 57 → is_ascii_digit b ≡ true
digit_in_range b low high = rw (le-leb 48 b low, le-leb b 57 high) refl

-- and only such a byte is
pub range_of_digit : (b : ℕ) → is_ascii_digit b ≡ true → (48 ≤ b) × (b ≤ 57)
range_of_digit b digit = let tests = both (leb 48 b) (leb b 57) digit in (leb-true 48 b tests.0, leb-true b 57 tests.1)
  where
    both : (x y : Bool) → (x && y) ≡ true → (x ≡ true) × (y ≡ true)
    both true y is = (refl, is)
    both false y is = cc

-- it is no blank
pub digit_not_blank : (b : ℕ) → is_ascii_digit b ≡ true → is_blank b ≡ false
digit_not_blank b digit =
    let range = range_of_digit b digit in
    rw (apart b 32 (omega arith), apart b 9 (omega arith)) refl
  where
    apart : (x y : ℕ) → y < x → eqb x y ≡ false
    apart x y above = elim (eqb_tells x y) [ inl same ↦ absurd (omega (arith, same.1)) | inr differ ↦ differ.0 ]

-- the number that digits write after those of n
abbrev pub number_after_digits : ℕ → List ℕ → Option ℕ
number_after_digits n [] = Some n
number_after_digits n (b ∷ word) = if is_ascii_digit b then number_after_digits (n * 10 + digit_value b) word else None

number_after_digits-is : (n : ℕ) (word : List ℕ) → number_after_digits n word ≡ (if all_ascii_digits word then Some (digits_value_after 10 n word) else None)
number_after_digits-is n [] = refl
number_after_digits-is n (b ∷ word) =
    elim (is_ascii_digit b) as (λ t. cond t (number_after_digits (n * 10 + digit_value b) word) None ≡ cond (t && all_ascii_digits word) (Some (digits_value_after 10 (n * 10 + digit_value b) word)) None) [
      | true ↦ number_after_digits-is (n * 10 + digit_value b) word
      | false ↦ refl
    ]

pub number_of-digits : (word : List ℕ) → 0 < length word → number_after_digits 0 word ≡ number_of word
number_of-digits [] some = absurd (omega arith)
number_of-digits (b ∷ word) some = number_after_digits-is 0 (b ∷ word)

-- a digit more
pub number_after_digits-digit : (n : ℕ) (word : List ℕ) (i : ℕ) → i < length word → is_ascii_digit (get_or word i 0) ≡ true → number_after_digits (n * 10 + digit_value (get_or word i 0)) (drop (i + 1) word) ≡ number_after_digits n (drop i word)
number_after_digits-digit n word i inside digit =
    let is_cons = drop-cons word i 0 inside in
    rw (is_cons, digit, add-one) refl

-- a byte that is no digit
pub number_after_digits-other : (n : ℕ) (word : List ℕ) (i : ℕ) → i < length word → is_ascii_digit (get_or word i 0) ≡ false → number_after_digits n (drop i word) ≡ None
number_after_digits-other n word i inside other =
    let is_cons = drop-cons word i 0 inside in
    rw (is_cons, other) refl

all_digits-push : (word : List ℕ) (b : ℕ) → all_ascii_digits (word ++ b ∷ []) ≡ (all_ascii_digits word && is_ascii_digit b)
all_digits-push [] b = and-true (is_ascii_digit b)
all_digits-push (x ∷ word) b = ap (λ t. is_ascii_digit x && t) (all_digits-push word b) ∙ sym (and_assoc (is_ascii_digit x) (all_ascii_digits word) (is_ascii_digit b))

-- a prefix of digits with a digit more
pub all_digits-more : (line : List ℕ) (i : ℕ) → i < length line → all_ascii_digits (take i line) ≡ true → is_ascii_digit (get_or line i 0) ≡ true → all_ascii_digits (take (i + 1) line) ≡ true
all_digits-more line i inside all digit = rw (take_more line i 0 inside, all_digits-push) (rw (all, digit) refl)

-- the number of a prefix of digits
pub number_of-prefix : (word : List ℕ) → 0 < length word → all_ascii_digits word ≡ true → number_of word ≡ Some (digits_value 10 word)
number_of-prefix [] some all = absurd (omega arith)
number_of-prefix (b ∷ word) some all = rw all refl
