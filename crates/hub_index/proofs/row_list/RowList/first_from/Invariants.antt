use Rattle.std.proofs.Common.{ℕ, ◌≤◌, All}
use Rattle.walk_laws.specs.Labelling.{label_row}
use Rattle.hub_index.specs.Reach.{IsBelow}
use Rattle.hub_index.proofs.row_list.RowList.first_from.Given as goal

-- the rows so far are below the limit
abbrev pub invariant-loop-k : goal.invariant-loop-k
invariant-loop-k l = (v : ℕ) → 1 ≤ v → v ≤ l.k → All (IsBelow l.limit) (label_row l.self v)
