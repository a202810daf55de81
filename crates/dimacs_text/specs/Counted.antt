-- A counted text: a `p` line with fixed words and counts, and then as many lines of one letter, each with so many numbers,
-- as the last count declares.
use Rattle.std.specs.Prelude.{◌≡◌, ℕ, ◌+◌, ◌^◌, Bool, true, false, ◌==◌, ◌&&◌, ◌||◌, nat_le, nat_lt, not, min, map, List, [], ◌∷◌, ◌++◌, All, length, Option, Some, None, is_some, Result, Ok, Err, if◌then◌else◌}
use Rattle.std.specs.Option.{ok_or}
use Rattle.std.specs.Str.{bytes_eq}
use Rattle.text_lines.specs.Words.{words_of, numbers_of}
use Rattle.text_lines.specs.Judgement.{◌>>=◌}
use Rattle.dimacs_text.specs.declared.fault.TextKind.{TextKind}
use Rattle.dimacs_text.specs.declared.fault.TextKind.TheVariants.{UnknownLine, NoProblem, SecondProblem, BadNumber, BadField, TooMany, Count}
use Rattle.dimacs_text.specs.declared.fault.TextFault.{TextFault}

-- the words of a counted text, and the faults of its numbers
pub record Wording : Type 0 where
  -- the words after `p`, as a line, and the greatest value of each count after them
  pub fixed : List ℕ
  pub limits : List ℕ
  -- the letter of the other lines, and how many numbers stand after it
  pub letter : ℕ
  pub numbers : ℕ
  -- the fault of such numbers, under the counts of the `p` line
  pub fault_of : List ℕ → List ℕ → Option TextKind

-- the lines of a text so far: the counts of its `p` line, where one was accepted, and the numbers of the lines after it
pub record Counted (T : Type 0) : Type 0 where
  pub text : T
  pub counts : Option (List ℕ)
  pub lines : List (List ℕ)

-- no line yet
abbrev pub none_yet : {T : Type 0} → T → Counted T
none_yet text = record { text = text; counts = None; lines = [] }

-- the last of the counts
abbrev pub last_of : List ℕ → ℕ
last_of [] = 0
last_of (n ∷ []) = n
last_of (n ∷ m ∷ counts) = last_of (m ∷ counts)

-- whether no count is past its limit
abbrev pub are_within : List ℕ → List ℕ → Bool
are_within [] counts = true
are_within (limit ∷ limits) [] = true
are_within (limit ∷ limits) (n ∷ counts) = nat_le n limit && are_within limits counts

-- whether a number is no node of 1..n
abbrev pub is_outside : ℕ → ℕ → Bool
is_outside n v = v == 0 || nat_lt n v

-- what is after some words at the start of others
abbrev pub after_words : List (List ℕ) → List (List ℕ) → Option (List (List ℕ))
after_words [] words = Some words
after_words (prefix ∷ prefixes) [] = None
after_words (prefix ∷ prefixes) (word ∷ words) = if bytes_eq word prefix then after_words prefixes words else None

-- a rule: its fault where it applies, and what the rules after it say where it doesn't
abbrev pub refuse : Bool → TextKind → Result (Unit {0}) TextKind
refuse true kind = Err kind
refuse false kind = Ok tt

-- the same of a fault that there may be
abbrev pub refuse_by : Option TextKind → Result (Unit {0}) TextKind
refuse_by None = Ok tt
refuse_by (Some kind) = Err kind

infixl 10 ◌>>◌
abbrev pub ◌>>◌ : {A F : Type 0} → Result (Unit {0}) F → Result A F → Result A F
(Ok done) >> rules = rules
(Err fault) >> rules = Err fault

-- the words in the places of so many numbers
abbrev pub numbers_in : ℕ → List (List ℕ) → Result (List ℕ) TextKind
numbers_in places words = do
  -- 3. more or fewer words
  refuse (not (length words == places)) BadField
  -- 4. a word that is no number
  ok_or (numbers_of words) BadNumber

-- some counts, of which none may be past its limit
abbrev pub within_limits : List ℕ → List ℕ → Result (List ℕ) TextKind
within_limits limits counts = do
  -- 5. a count past its limit
  refuse (not (are_within limits counts)) TooMany
  Ok counts

-- the counts that a `p` line declares
abbrev pub declared_counts : Wording → List (List ℕ) → Result (List ℕ) TextKind
declared_counts w words = do
  -- 3. other words than the fixed ones
  after ← ok_or (after_words (words_of w.fixed) words) BadField
  -- 3 and 4. other words after them than a number for each count
  counts ← numbers_in (length w.limits) after
  -- 5
  within_limits w.limits counts

-- the numbers of a line of the letter
abbrev pub line_numbers : Wording → List ℕ → List (List ℕ) → Result (List ℕ) TextKind
line_numbers w counts words = do
  -- 3 and 4. other words than so many numbers
  numbers ← numbers_in w.numbers words
  -- 5 and 6. a fault of these
  refuse_by (w.fault_of counts numbers)
  Ok numbers

-- a line is judged by the first of seven rules that applies
module _ {T : Type 0} (w : Wording) where
  -- a `p` line, by the words after the `p`
  abbrev pub problem_line : Counted T → List (List ℕ) → Result (Counted T) TextKind
  problem_line so_far words = do
    -- 2. a second `p` line
    refuse (is_some so_far.counts) SecondProblem
    -- 3 to 5
    counts ← declared_counts w words
    Ok (record so_far { counts = Some counts })

  -- a line of the letter, by the words after it
  abbrev pub letter_line : Counted T → List (List ℕ) → Result (Counted T) TextKind
  letter_line so_far words = do
    -- 2. no `p` line before it
    counts ← ok_or so_far.counts NoProblem
    -- 3 to 6
    numbers ← line_numbers w counts words
    -- 7. as many lines as declared were there already
    refuse (length so_far.lines == last_of counts) (Count (last_of counts) (last_of counts + 1))
    Ok (record so_far { lines = so_far.lines ++ numbers ∷ [] })

  -- a line, by its words
  abbrev pub counted_line : Counted T → List (List ℕ) → Result (Counted T) TextKind
  counted_line so_far [] = Err UnknownLine
  counted_line so_far (word ∷ words) =
      if bytes_eq word (112 ∷ []) then problem_line so_far words
      else (if bytes_eq word (w.letter ∷ []) then letter_line so_far words
      -- 1. a first word that is neither `p` nor the letter
      else Err UnknownLine)

-- the end of the text: its counts
abbrev pub counted_end : {T : Type 0} → Counted T → Result (List ℕ) TextKind
counted_end so_far = do
  -- no `p` line
  counts ← ok_or so_far.counts NoProblem
  -- fewer lines than declared
  refuse (nat_lt (length so_far.lines) (last_of counts)) (Count (last_of counts) (length so_far.lines))
  Ok counts

-- a fault of a line, with its number
abbrev pub in_line : {A F : Type 0} → (TextFault → F) → ℕ → Result A TextKind → Result A F
in_line fault number (Ok x) = Ok x
in_line fault number (Err kind) = Err (fault (record { line = number; kind = kind }))

-- how a counted text of some kind is judged; `value_of` says what its counts and lines stand for, or which fault they have
module _ {T V F : Type 0} (wording : T → Wording) (fault : TextFault → F) (value_of : T → List ℕ → List (List ℕ) → Result V F) where
  abbrev pub counted_judged : Counted T → ℕ → List (List ℕ) → Result (Counted T) F
  counted_judged so_far number words = in_line fault number (counted_line (wording so_far.text) so_far words)

  abbrev pub counted_ended : Counted T → ℕ → Result V F
  counted_ended so_far number = in_line fault number (counted_end so_far) >>= λ counts. value_of so_far.text counts so_far.lines

-- the lines of an accepted text: its counts are within their limits, and its numbers have no fault
pub record AreAccepted (w : Wording) (counts : List ℕ) (lines : List (List ℕ)) : Type 0 where
  pub counted : length counts ≡ length w.limits
  pub within : are_within w.limits counts ≡ true
  pub numbers : All (λ numbers. length numbers ≡ w.numbers) lines
  pub faultless : All (λ numbers. w.fault_of counts numbers ≡ None) lines

-- numbers as a reader keeps them: a greater one than 2^64 as that
abbrev pub kept : List ℕ → List ℕ
kept numbers = map (λ n. min n (2 ^ 64)) numbers

-- how the numbers of a line may be judged by one who sees them as they are kept
abbrev pub JudgesNumbers : {I : Type 0} → (List ℕ → Option TextKind) → (I → List ℕ) → List ℕ → Result I TextKind → Type 0
JudgesNumbers fault_of written numbers (Ok item) = (fault_of numbers ≡ None) × (written item ≡ numbers)
JudgesNumbers fault_of written numbers (Err kind) = fault_of numbers ≡ Some kind
