-- Words are one command at most.
use Rattle.std.proofs.Common.{◌≡◌, ◌∙◌, sym, ℕ, List, Option, Some, None}
use Rattle.chl_words.specs.Asking.{asked_by}
use Rattle.chl_words.specs.declared.asked.Asked.{Asked}
use Rattle.chl_answers.specs.Words.{IsCommand, IsNoCommand}

same_asked : (a b : Asked) → Some a ≡ Some b → a ≡ b
same_asked a b is = cc

nothing_asked : (a : Asked) → ◌≡◌ {A = Option Asked} None (Some a) → ⊥
nothing_asked a is = cc

pub one_command : (words : List (List ℕ)) (a b : Asked) → IsCommand words a → IsCommand words b → a ≡ b
one_command words a b first second = same_asked a b (sym first ∙ second)

-- where the words ask for nothing they are no command
pub no_command : (words : List (List ℕ)) → asked_by words ≡ None → IsNoCommand words
no_command words none asked is = nothing_asked asked (sym none ∙ is)
