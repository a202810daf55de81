use Rattle.std.proofs.Common.{◌≡◌, ℕ, ◌<◌, length, take}
use Rattle.label_clean.specs.RunLists.{entries_at}
use Rattle.gll_table.specs.Partition.{shard_entries}
use Rattle.gll_table.proofs.partitioning.partition_entries.Given as goal

-- the entries so far stand in the lists of their shards
abbrev pub invariant-loop-entry : goal.invariant-loop-entry
invariant-loop-entry l = record {
  size : length l.parts ≡ length l.fn.parts;
  each : (number : ℕ) → number < length l.fn.parts → entries_at l.parts number ≡ shard_entries l.plan.shift number (take l.entry-index l.entries);
}
