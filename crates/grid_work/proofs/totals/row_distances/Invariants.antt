use Rattle.std.proofs.Common.{◌≡◌, take}
use Rattle.grid_work.specs.Totals.{row_distances}
use Rattle.grid_work.proofs.totals.row_distances.Given as goal

-- the sum of the distances so far
abbrev pub invariant-loop-entry : goal.invariant-loop-entry
invariant-loop-entry l = l.sum ≡ row_distances (take l.entry-index l.row)
