-- The lists of words that the program takes.
use Rattle.std.specs.Prelude.{◌≡◌, ℕ, List, Some}
use Rattle.chl_words.specs.Asking.{asked_by}
use Rattle.chl_words.specs.declared.asked.Asked.{Asked}

-- the words ask for this command
abbrev pub IsCommand : List (List ℕ) → Asked → Type 0
IsCommand words asked = asked_by words ≡ Some asked

-- the words are no command
abbrev pub IsNoCommand : List (List ℕ) → Type 0
IsNoCommand words = (asked : Asked) → ¬ (IsCommand words asked)
