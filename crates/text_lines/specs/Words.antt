-- The words of a line, and the numbers among them.
use Rattle.std.specs.Prelude.{◌≡◌, ℕ, ◌^◌, min, Bool, true, false, ◌||◌, ◌==◌, List, [], ◌∷◌, ◌++◌, Option, Some, None, option_and_then, if◌then◌else◌}
use Rattle.std.specs.Option.{option_map}
use Rattle.std.specs.Str.{all_ascii_digits}
use Rattle.std.specs.Str.Parse.{digits_value}

-- a space or a tab
abbrev pub is_blank : ℕ → Bool
is_blank b = b == 32 || b == 9

-- a word, where it has a byte
abbrev pub word_if_any : List ℕ → List (List ℕ)
word_if_any [] = []
word_if_any (b ∷ word) = (b ∷ word) ∷ []

-- the words of a line, the first of them begun by some bytes before
abbrev pub words_after : List ℕ → List ℕ → List (List ℕ)
words_after begun [] = word_if_any begun
words_after begun (b ∷ line) = if is_blank b then word_if_any begun ++ words_after [] line else words_after (begun ++ b ∷ []) line

-- the words of a line: its runs of bytes other than space and tab
abbrev pub words_of : List ℕ → List (List ℕ)
words_of line = words_after [] line

-- whether the words of a line are none, or a comment, whose first word begins with `c`
abbrev pub is_skipped : List (List ℕ) → Bool
is_skipped [] = true
is_skipped ([] ∷ words) = false
is_skipped ((b ∷ word) ∷ words) = b == 99

-- the number that a word is: one or more decimal digits, of any size, leading zeros allowed
abbrev pub number_of : List ℕ → Option ℕ
number_of [] = None
number_of (b ∷ word) = if all_ascii_digits (b ∷ word) then Some (digits_value 10 (b ∷ word)) else None

-- the number that a word is, as a reader keeps it: one above 2^64 as that
abbrev pub number_of_word : List ℕ → Option ℕ
number_of_word word = option_map (λ n. min n (2 ^ 64)) (number_of word)

-- the first of some words is this number, and these words are after it
pub record IsFirstNumber (words : List (List ℕ)) (number : Option ℕ) (after : List (List ℕ)) : Type 0 where
  pub word : List ℕ
  pub first : words ≡ word ∷ after
  pub value : number ≡ number_of_word word

-- the numbers that some words are, all of them
abbrev pub numbers_of : List (List ℕ) → Option (List ℕ)
numbers_of [] = Some []
numbers_of (word ∷ words) = option_and_then (λ n. option_and_then (λ ns. Some (n ∷ ns)) (numbers_of words)) (number_of word)
