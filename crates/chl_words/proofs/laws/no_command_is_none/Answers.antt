use Rattle.std.proofs.Common.{◌≡◌, refl, [], ◌∷◌, None}
use Rattle.clap.specs.Words.{Text}
use Rattle.clap.proofs.OnLiterals.{clap_on_literals}
use Rattle.chl_words.specs.Asking.{asked_by}
use Rattle.chl_words.proofs.laws.no_command_is_none.Goals as goal

no_words : asked_by [] ≡ None
unfolding clap_on_literals
no_words = refl

name_alone : (program : Text) → asked_by (program ∷ []) ≡ None
unfolding clap_on_literals
name_alone program = refl

pub returns : goal.returns
returns c = (no_words, name_alone)
