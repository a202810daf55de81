use Rattle.std.proofs.Common.{◌≡◌, length}
use Rattle.frontier.specs.HeapEntries.{HasHeapEntries}
use Rattle.frontier.proofs.frontier.Frontier.take.Given as goal

-- the heap entries so far taken out were of no queued node at its distance
abbrev pub invariant-loop-heap_entry : goal.invariant-loop-heap_entry
invariant-loop-heap_entry g l = record {
  has : HasHeapEntries l.self-inside.reaches l.self-inside.heap_entries l.self-inside.touched.items;
  same : l.self-inside.reaches ≡ l.initial.self-inside.reaches;
}

abbrev pub decreases-loop-heap_entry : goal.decreases-loop-heap_entry
decreases-loop-heap_entry g l = length l.self-inside.heap_entries
