use Rattle.std.proofs.Common.{◌≡◌, ℕ, ◌++◌, take}
use Rattle.entry_sinks.specs.Sunk.{sunk_at}
use Rattle.plant_build.specs.TreeEntries.{entries_of}
use Rattle.plant_build.proofs.batch.put_tree.Given as goal

-- each node has gained what the nodes so far give it
abbrev pub invariant-loop-v : goal.invariant-loop-v
invariant-loop-v l = record {
  n : l.sink.n ≡ l.fn.sink.n;
  grows : (v : ℕ) → sunk_at l.sink v ≡ sunk_at l.fn.sink v ++ entries_of l.p v (take l.v-index l.planted);
}
