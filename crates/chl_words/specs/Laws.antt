-- The laws of command lines. `laws` has a public function for each.
use Rattle.std.specs.Prelude.{◌≡◌, false, List, [], ◌∷◌, ◌++◌, Contains, None, if◌then◌else◌}
use Rattle.std.specs.List.{list_any}
use Rattle.std.specs.Str.{bytes_eq}
use Rattle.clap.specs.Words.{Shape, Text}
use Rattle.chl_words.specs.Literal.{commands}
use Rattle.chl_words.specs.Forms.{Use, AreTyped, begins_with_dash, is_taken, value_of, words_of}
use Rattle.chl_words.specs.Asking.{asked_of, asked_by}

-- A program's name, a command and uses of options, in any order and each in either form, ask for what the values of the uses
-- and the defaults of the other options say, where the command takes the uses, and else for nothing.
abbrev pub CommandsAreJudgedByTheirUses : Type 0
CommandsAreJudgedByTheirUses = (program : Text) (s : Shape) (uses : List Use) → Contains commands s → AreTyped uses
    → asked_by (program ∷ s.name ∷ words_of uses) ≡ (if is_taken s.rules uses then asked_of s.name (value_of s.rules uses) else None)

-- no words ask for nothing, and neither does the program's name alone
abbrev pub NoCommandIsNone : Type 0
NoCommandIsNone = (asked_by [] ≡ None) × ((program : Text) → asked_by (program ∷ []) ≡ None)

-- a word that does not begin with a dash, after uses, is stray: whatever follows, the words ask for nothing
abbrev pub StrayWordsAreNoCommand : Type 0
StrayWordsAreNoCommand = (program : Text) (s : Shape) (uses : List Use) (word : Text) (rest : List Text) → Contains commands s → AreTyped uses → begins_with_dash word ≡ false
    → asked_by (program ∷ s.name ∷ (words_of uses ++ word ∷ rest)) ≡ None

-- where the first word after the program's name is no command's name, as `help`, `--help` and `-h`, the words ask for nothing,
-- whatever follows
abbrev pub UnknownCommandsAreNone : Type 0
UnknownCommandsAreNone = (program name : Text) (rest : List Text) → list_any (λ s. bytes_eq s.name name) commands ≡ false → asked_by (program ∷ name ∷ rest) ≡ None
