use Rattle.std.proofs.Common.{All, take}
use Rattle.hub_index.specs.RootDistances.{IsCover}
use Rattle.label_clean.proofs.cover.is_covered.Given as goal

-- none of the entries so far covers
abbrev pub invariant-loop-entry : goal.invariant-loop-entry
invariant-loop-entry l = All (λ e. IsCover l.table l.pos l.dist e → ⊥) (take l.entry-index l.row)
