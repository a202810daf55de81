use Rattle.std.proofs.Common.{length, take}
use Rattle.resumed_tree.specs.Offered.{HasStarts}
use Rattle.resumed_tree.proofs.resuming.offer_starts.Given as goal

-- the starts so far were offered
abbrev pub invariant-loop-start : goal.invariant-loop-start
invariant-loop-start l = HasStarts (length l.initial.frontier) (take l.start-index l.starts) l.frontier
