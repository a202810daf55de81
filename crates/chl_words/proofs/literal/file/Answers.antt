use Rattle.chl_words.proofs.Settings.{is_required}
use Rattle.chl_words.proofs.literal.file.Goals as goal

pub returns : goal.returns
returns c = is_required _ _ _ _ c.option.ensures c.required.ensures
