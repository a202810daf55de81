use Rattle.std.proofs.Common.{length}
use Rattle.index_file.specs.Gives.{Takes}
use Rattle.index_file.proofs.progress.Progress.feed.Given as goal

-- what was taken of the piece
abbrev pub invariant-loop-rest : goal.invariant-loop-rest
invariant-loop-rest l = Takes l.fn.self l.piece l.progress l.rest

abbrev pub decreases-loop-rest : goal.decreases-loop-rest
decreases-loop-rest l = length l.rest
