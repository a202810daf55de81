use Rattle.std.proofs.Common.{length}
use Rattle.index_file.specs.Gives.{at_node}
use Rattle.index_file.proofs.Steps.{Runs}
use Rattle.index_file.proofs.progress.take_names.Given as goal

-- the nodes taken so far
abbrev pub invariant-loop-rest : goal.invariant-loop-rest
invariant-loop-rest l = Runs (at_node l.fn.names l.fn.at) l.bytes (at_node l.names l.at) l.rest

abbrev pub decreases-loop-rest : goal.decreases-loop-rest
decreases-loop-rest l = length l.rest
