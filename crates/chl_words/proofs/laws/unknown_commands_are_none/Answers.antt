use Rattle.chl_words.proofs.Unknown.{unknown_is_none}
use Rattle.chl_words.proofs.laws.unknown_commands_are_none.Goals as goal

pub returns : goal.returns
returns c = unknown_is_none
