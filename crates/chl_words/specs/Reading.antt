-- What the code reads of the matches.
use Rattle.std.specs.Prelude.{◌≡◌, Option, Some, None, Result, Ok, Err}
use Rattle.chl_words.specs.declared.asked.AskFault.{AskFault}
use Rattle.chl_words.specs.declared.asked.AskFault.TheVariants.{Usage, NoMemory}

-- the value is read: it is there, or the words are no command where it is not, or memory ran out
abbrev pub IsRead : {A : Type 0} → Option A → Result A AskFault → Type 0
IsRead value (Ok a) = value ≡ Some a
IsRead value (Err Usage) = value ≡ None
IsRead value (Err NoMemory) = Unit {0}
