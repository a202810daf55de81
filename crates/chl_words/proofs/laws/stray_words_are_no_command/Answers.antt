use Rattle.chl_words.proofs.Strays.{stray_is_none}
use Rattle.chl_words.proofs.laws.stray_words_are_no_command.Goals as goal

pub returns : goal.returns
returns c = stray_is_none
