-- The numbers of a line, word by word.
use Rattle.std.proofs.Common.{◌≡◌, ℕ, ◌+◌, ◌^◌, Bool, true, false, min, List, [], ◌∷◌, ◌++◌, length, Option, Some, None, refl, ap, sym, ◌∙◌, append_assoc}
use Rattle.std.specs.Prelude.{◌&&◌, is_some, unwrap_or}
use Rattle.std.specs.Option.{option_map, option_and_then}
use Rattle.std.proofs.lemmas.List.{append-nil, map-append}
use Rattle.text_lines.specs.Words.{number_of, numbers_of}
use Rattle.dimacs_text.specs.Counted.{kept}

-- one number more, where all so far are numbers
abbrev pub with_number : Option (List ℕ) → Option ℕ → Option (List ℕ)
with_number (Some ns) (Some n) = Some (ns ++ n ∷ [])
with_number (Some ns) None = None
with_number None number = None

-- the numbers that words are after those so far
abbrev pub numbers_after : Option (List ℕ) → List (List ℕ) → Option (List ℕ)
numbers_after so_far [] = so_far
numbers_after so_far (word ∷ words) = numbers_after (with_number so_far (number_of word)) words

none_after : (words : List (List ℕ)) → numbers_after None words ≡ None
none_after [] = refl
none_after (word ∷ words) = none_after words

-- the prefix of numbers, where there are any
abbrev prefixed : List ℕ → Option (List ℕ) → Option (List ℕ)
prefixed ns more = option_map (λ ms. ns ++ ms) more

one_more : (ns : List ℕ) (n : ℕ) (more : Option (List ℕ)) → prefixed (ns ++ n ∷ []) more ≡ prefixed ns (option_and_then (λ ms. Some (n ∷ ms)) more)
one_more ns n None = refl
one_more ns n (Some ms) = ap Some (append_assoc ns (n ∷ []) ms)

word_after : (ns : List ℕ) (number : Option ℕ) (words : List (List ℕ)) → ((ms : List ℕ) → numbers_after (Some ms) words ≡ prefixed ms (numbers_of words)) → numbers_after (with_number (Some ns) number) words ≡ prefixed ns (option_and_then (λ n. option_and_then (λ ms. Some (n ∷ ms)) (numbers_of words)) number)
word_after ns None words after = none_after words
word_after ns (Some n) words after = after (ns ++ n ∷ []) ∙ one_more ns n (numbers_of words)

numbers_after-is : (ns : List ℕ) (words : List (List ℕ)) → numbers_after (Some ns) words ≡ prefixed ns (numbers_of words)
numbers_after-is ns [] = ap Some (sym (append-nil ns))
numbers_after-is ns (word ∷ words) = word_after ns (number_of word) words (λ ms. numbers_after-is ms words)

unprefixed : (more : Option (List ℕ)) → prefixed [] more ≡ more
unprefixed None = refl
unprefixed (Some ms) = refl

-- from the first word on they are the numbers of all
pub numbers_of-after : (words : List (List ℕ)) → numbers_after (Some []) words ≡ numbers_of words
numbers_of-after words = numbers_after-is [] words ∙ unprefixed (numbers_of words)

-- what a reader has: whether all words were numbers, and then these, as it keeps them
abbrev pub IsRead : Option (List ℕ) → Bool → List ℕ → Type 0
IsRead (Some ns) true places = places ≡ kept ns
IsRead (Some ns) false places = ⊥
IsRead None true places = ⊥
IsRead None false places = Unit {0}

-- one word more
pub IsRead-more : (so_far : Option (List ℕ)) (all : Bool) (places : List ℕ) (number : Option ℕ) (value : Option ℕ) → value ≡ option_map (λ n. min n (2 ^ 64)) number → IsRead so_far all places → IsRead (with_number so_far number) (all && is_some value) (places ++ unwrap_or value 0 ∷ [])
IsRead-more (Some ns) true places None value is read = rw is tt
IsRead-more (Some ns) true places (Some n) value is read = rw is (ap (λ prefix. prefix ++ min n (2 ^ 64) ∷ []) read ∙ sym (map-append (λ n. min n (2 ^ 64)) ns (n ∷ [])))
IsRead-more (Some ns) false places number value is read = absurd read
IsRead-more None true places number value is read = absurd read
IsRead-more None false places number value is read = tt

-- the words that are left to a reader of a line
pub record Left (words rest : List (List ℕ)) (place : ℕ) (all : Bool) (places : List ℕ) : Type 0 where
  pub so_far : Option (List ℕ)
  pub comes : numbers_after so_far rest ≡ numbers_of words
  pub count : length rest + place ≡ length words
  pub read : IsRead so_far all places
