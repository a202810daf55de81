use Rattle.chl_words.proofs.Programs.{is_judged, uses_judged}
use Rattle.chl_words.proofs.laws.commands_are_judged_by_their_uses.Goals as goal

pub returns : goal.returns
returns c = λ program s uses has typed. uses_judged s (is_judged s has) program uses typed
