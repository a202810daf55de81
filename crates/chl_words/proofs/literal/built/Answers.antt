use Rattle.chl_words.proofs.literal.built.Goals as goal

pub returns : goal.returns
returns c =
    let one = c.with_option-command.ensures _ _ c.files.ensures c.construction.ensures in
    let two = c.with_option-command-2.ensures _ _ one c.workers.ensures in
    let three = c.with_option-command-3.ensures _ _ two c.cut.ensures in
    c.with_option.ensures _ _ three c.eta.ensures
