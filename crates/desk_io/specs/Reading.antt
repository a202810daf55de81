-- How a reading of the whole input may end.
use Rattle.std.specs.Prelude.{◌≡◌, ℕ, ◌<◌, ◌≤◌, ◌^◌, List, [], ◌∷◌, ◌++◌, length, Option, Result, Err}
use Rattle.std.specs.List.{concat}
use Rattle.desk_io.specs.Contents.{Contents, Tells}
use Rattle.desk_io.specs.Counts.{Rises}
use Rattle.desk_io.specs.Feed.{TakesAll}
use Rattle.desk_io.specs.declared.read_all.ReadEnd.{ReadEnd}
use Rattle.desk_io.specs.declared.read_all.ReadEnd.TheVariants.{Failed, TooLong, NoMemory, Refused}

-- the most bytes that the reading of an input hands on
abbrev pub input_limit : ℕ
input_limit = 2 ^ 48

-- the most bytes of a piece
abbrev pub piece_limit : ℕ
piece_limit = 2 ^ 13

-- these bytes were the prefix of the input, and are no longer; nothing else changed
abbrev pub Reads : List ℕ → Contents → Contents → Type 0
Reads bytes a b = (a.rest ≡ bytes ++ b.rest) × (b ≡ record a { rest = b.rest })

-- these bytes were the whole input, and none is left; nothing else changed
abbrev pub ReadsToEnd : List ℕ → Contents → Contents → Type 0
ReadsToEnd bytes a b = (a.rest ≡ bytes) × (b ≡ record a { rest = [] })

module _ {F E : Type 0} (gives : F → List ℕ → Result (Unit {0}) E → F → Type 0) (limit : ℕ) where
  -- the feed took these pieces, which were read off the input in this order and are at most the limit
  pub record HandsOn (before after : F) (old new : Option Contents) : Type 0 where
    pub pieces : List (List ℕ)
    pub taken : TakesAll gives before pieces after
    pub within : length (concat pieces) ≤ limit
    pub read : Tells old new (Reads (concat pieces))

  -- the same, and these were the whole input
  pub record HandsOnAll (before after : F) (old new : Option Contents) : Type 0 where
    pub pieces : List (List ℕ)
    pub taken : TakesAll gives before pieces after
    pub within : length (concat pieces) ≤ limit
    pub read : Tells old new (ReadsToEnd (concat pieces))

  -- the feed took pieces that fill the limit, and after them one byte more was read off the input
  pub record PassesLimit (before after : F) (old new : Option Contents) : Type 0 where
    pub pieces : List (List ℕ)
    pub taken : TakesAll gives before pieces after
    pub full : length (concat pieces) ≡ limit
    pub further : ℕ
    pub read : Tells old new (Reads (concat pieces ++ further ∷ []))

  -- the feed took these pieces and answered the fault to the next one, which was read off the input after them
  pub record HandsOnUntil (fault : E) (before after : F) (old new : Option Contents) : Type 0 where
    pub pieces : List (List ℕ)
    pub last : List ℕ
    pub middle : F
    pub taken : TakesAll gives before pieces middle
    pub refused : gives middle last (Err fault) after
    pub nonempty : 0 < length last
    pub short : length last ≤ piece_limit
    pub within : length (concat pieces ++ last) ≤ limit
    pub read : Tells old new (Reads (concat pieces ++ last))

module _ {T E : Type 0} where
  -- P, where the desk failed
  abbrev pub OnFailed : Result T (ReadEnd E) → Type 0 → Type 0
  OnFailed (Err Failed) P = P
  OnFailed _ P = Unit {0}

  -- P, where there was more input than the limit
  abbrev pub OnTooLong : Result T (ReadEnd E) → Type 0 → Type 0
  OnTooLong (Err TooLong) P = P
  OnTooLong _ P = Unit {0}

  -- P, where there was no memory
  abbrev pub OnNoMemory : Result T (ReadEnd E) → Type 0 → Type 0
  OnNoMemory (Err NoMemory) P = P
  OnNoMemory _ P = Unit {0}

  -- P of the fault that the feed answered
  abbrev pub IfRefused : Result T (ReadEnd E) → (E → Type 0) → Type 0
  IfRefused (Err (Refused fault)) P = P fault
  IfRefused _ P = Unit {0}

  -- what a reading does to the count of input faults: it rises where the desk failed, and else stays
  abbrev pub CountsReadFailure : Result T (ReadEnd E) → ℕ → ℕ → Type 0
  CountsReadFailure (Err Failed) old new = Rises old new
  CountsReadFailure _ old new = new ≡ old
