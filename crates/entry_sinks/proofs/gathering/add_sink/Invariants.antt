use Rattle.std.proofs.Common.{◌≡◌, ℕ, ◌<◌, ◌≤◌, [], ◌∷◌, ◌++◌, length, get_or}
use Rattle.entry_sinks.specs.declared.gathering.Part.{Part}
use Rattle.entry_sinks.specs.Sunk.{range_at}
use Rattle.entry_sinks.proofs.gathering.add_sink.Given as goal

-- the last parts have gained their entries, and the first ones are as before
abbrev pub invariant-loop-entries : goal.invariant-loop-entries
invariant-loop-entries l = record {
  size : length l.parts ≡ length l.fn.parts;
  few : length l.ranges.items ≤ length l.parts;
  left : (r : ℕ) → r < length l.ranges.items → get_or l.ranges.items r [] ≡ range_at l.fn.sink r;
  same : (r : ℕ) (d : Part) → r < length l.ranges.items → get_or l.parts r d ≡ get_or l.fn.parts r d;
  gained : (r : ℕ) (d : Part) → length l.ranges.items ≤ r → r < length l.parts → (get_or l.parts r d).entries.items ≡ (get_or l.fn.parts r d).entries.items ++ range_at l.fn.sink r ∷ [];
}

abbrev pub decreases-loop-entries : goal.decreases-loop-entries
decreases-loop-entries l = length l.ranges.items
