use Rattle.std.proofs.Common.{◌≡◌, length, take}
use Rattle.std.specs.List.{sum_by}
use Rattle.grid_work.specs.Totals.{row_distances}
use Rattle.grid_work.proofs.totals.totals_of.Given as goal

-- what the rows so far come to
abbrev pub invariant-loop-p : goal.invariant-loop-p
invariant-loop-p l = record {
  entries : l.entries ≡ sum_by length (take l.p l.index.rows);
  distances : l.distances ≡ sum_by row_distances (take l.p l.index.rows);
}
