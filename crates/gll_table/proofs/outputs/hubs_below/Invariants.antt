use Rattle.std.proofs.Common.{take}
use Rattle.gll_table.specs.Partition.{ListsHubs}
use Rattle.gll_table.specs.Outputs.{all_put}
use Rattle.gll_table.proofs.outputs.hubs_below.Given as goal

-- what the first workers put at those nodes is listed
abbrev pub invariant-loop-output : goal.invariant-loop-output
invariant-loop-output g l = ListsHubs g.B.Build.order l.next (all_put (take l.output-index l.outputs)) l.hubs.items
