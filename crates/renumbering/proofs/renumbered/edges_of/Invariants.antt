use Rattle.std.proofs.Common.{◌≡◌, take}
use Rattle.renumbering.specs.Renumbered.{renumbered_edges}
use Rattle.renumbering.proofs.renumbered.edges_of.Given as goal

abbrev pub invariant-loop-e : goal.invariant-loop-e
invariant-loop-e l = l.edges.items ≡ renumbered_edges l.bfs_order (take l.e-index l.old)
