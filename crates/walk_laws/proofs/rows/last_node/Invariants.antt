use Rattle.std.proofs.Common.{◌+◌, take}
use Rattle.walk_laws.specs.Rows.{AreWithin}
use Rattle.walk_laws.proofs.rows.last_node.Given as goal

abbrev pub invariant-loop-e : goal.invariant-loop-e
invariant-loop-e l = AreWithin (take l.e-index l.edges) (l.last + 1)
