use Rattle.std.proofs.Common.{All, take}
use Rattle.resumed_tree.proofs.Stands.{IsPassed}
use Rattle.resumed_tree.proofs.taking.stand_of.Given as goal

-- the entries so far rank above, and none covers
abbrev pub invariant-loop-place : goal.invariant-loop-place
invariant-loop-place l = All (IsPassed l.table l.entry) (take l.place l.row)
