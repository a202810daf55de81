use Rattle.std.proofs.Common.{length}
use Rattle.index_file.specs.Gives.{at_position}
use Rattle.index_file.proofs.Steps.{Runs}
use Rattle.index_file.proofs.progress.take_entries.Given as goal

-- the entries taken so far
abbrev pub invariant-loop-rest : goal.invariant-loop-rest
invariant-loop-rest l = Runs (at_position l.done l.fn.part l.fn.at) l.bytes (at_position l.done l.part l.at) l.rest

abbrev pub decreases-loop-rest : goal.decreases-loop-rest
decreases-loop-rest l = length l.rest
