use Rattle.std.proofs.Common.{All, take}
use Rattle.hub_index.specs.RootDistances.{IsCover}
use Rattle.hub_index.specs.CompactRows.{widened}
use Rattle.hub_index.proofs.compact_row.compact_cover.Given as goal

-- none of the entries so far covers
abbrev pub invariant-loop-entry : goal.invariant-loop-entry
invariant-loop-entry l = All (λ e. IsCover l.table l.pos l.dist (widened e) → ⊥) (take l.entry-index l.row)
