use Rattle.chl_words.proofs.literal.near.Goals as goal

pub returns : goal.returns
returns c = c.with_option.ensures _ _ c.files-command.ensures c.number_needed.ensures
