use Rattle.std.proofs.Common.{◌≡◌}
use Rattle.hub_index.specs.RootDistances.{noted}
use Rattle.pool_view.proofs.puts.Puts.note.Given as goal

abbrev pub invariant-loop-entry : goal.invariant-loop-entry
invariant-loop-entry l = l.table ≡ noted l.fn.table l.yielded
