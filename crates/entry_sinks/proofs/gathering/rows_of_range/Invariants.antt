use Rattle.std.proofs.Common.{◌≡◌, ℕ, ◌+◌, ◌≤◌, ◌++◌, length}
use Rattle.walk_laws.specs.Labelling.{label_row}
use Rattle.entry_sinks.specs.Sunk.{all_of_node}
use Rattle.entry_sinks.proofs.gathering.rows_of_range.Given as goal

abbrev pub invariant-loop-of_sink : goal.invariant-loop-of_sink
invariant-loop-of_sink l = length l.room.items ≡ l.count

-- with the entries of the sinks to come each row has those of all sinks
abbrev pub invariant-loop-of_sink-2 : goal.invariant-loop-of_sink-2
invariant-loop-of_sink-2 l = record {
  size : length l.rows ≡ l.count;
  rows : (v : ℕ) → 1 ≤ v → v ≤ l.count → label_row l.rows v ++ all_of_node l.of_sink-iterator.rest.items (l.before + v) ≡ all_of_node l.fn.entries.items (l.before + v);
}
