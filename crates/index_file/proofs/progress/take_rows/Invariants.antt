use Rattle.std.proofs.Common.{length}
use Rattle.index_file.specs.Gives.{at_position}
use Rattle.index_file.proofs.Steps.{Runs}
use Rattle.index_file.proofs.progress.take_rows.Given as goal

-- the entries and rows taken so far
abbrev pub invariant-loop-alloc : goal.invariant-loop-alloc
invariant-loop-alloc l = Runs (at_position l.fn.done l.fn.part l.fn.at) l.bytes (at_position l.done l.part l.at) l.rest

abbrev pub decreases-loop-alloc : goal.decreases-loop-alloc
decreases-loop-alloc l = length l.rest
