use Rattle.chl_words.proofs.literal.build.Goals as goal

pub returns : goal.returns
returns c = c.with_option.ensures _ _ c.built-command.ensures c.version.ensures
