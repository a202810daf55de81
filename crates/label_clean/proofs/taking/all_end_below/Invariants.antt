use Rattle.std.proofs.Common.{All, take}
use Rattle.walk_laws.specs.Labelling.{label_row}
use Rattle.label_clean.specs.RootRuns.{EndsBelow}
use Rattle.label_clean.proofs.taking.all_end_below.Given as goal

-- the rows of the entries so far end below the position
abbrev pub invariant-loop-entry : goal.invariant-loop-entry
invariant-loop-entry l = record { ends : All (λ e. EndsBelow l.pos (label_row l.rows e.node)) (take l.entry-index l.run) }
