use Rattle.std.proofs.Common.{All, take}
use Rattle.hub_index.specs.RootDistances.{IsCover}
use Rattle.hub_index.proofs.root_table.covered.Given as goal

abbrev pub invariant-loop-entry : goal.invariant-loop-entry
invariant-loop-entry l = All (λ e. IsCover l.table l.pos l.dist e → ⊥) (take l.entry-index l.row)
