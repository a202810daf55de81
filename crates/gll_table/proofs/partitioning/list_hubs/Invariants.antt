use Rattle.std.proofs.Common.{◌≡◌, take}
use Rattle.gll_table.specs.Partition.{hub_entries}
use Rattle.gll_table.proofs.partitioning.list_hubs.Given as goal

-- the entries so far are listed
abbrev pub invariant-loop-entry : goal.invariant-loop-entry
invariant-loop-entry l = l.hubs.items ≡ hub_entries l.ranking l.below (take l.entry-index l.entries)
