use Rattle.chl_words.proofs.literal.opening.Goals as goal

pub returns : goal.returns
returns c = c.with_option.ensures _ _ c.files-command.ensures c.version.ensures
