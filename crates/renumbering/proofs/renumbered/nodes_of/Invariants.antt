use Rattle.std.proofs.Common.{◌≡◌, take}
use Rattle.renumbering.specs.Renumbered.{renumbered}
use Rattle.renumbering.proofs.renumbered.nodes_of.Given as goal

abbrev pub invariant-loop-p : goal.invariant-loop-p
invariant-loop-p l = l.nodes.items ≡ renumbered l.bfs_order (take l.p l.ranking)
