use Rattle.std.proofs.Common.{◌≡◌, ℕ, ◌+◌, ◌/◌, ◌<◌, ◌++◌, All, length, get_or}
use Rattle.entry_sinks.specs.declared.gathering.Part.{Part}
use Rattle.entry_sinks.specs.Sunk.{range_width, ranges_at}
use Rattle.entry_sinks.proofs.gathering.by_ranges.Given as goal

-- with the entries of the sinks to come each part has those of all sinks
abbrev pub invariant-loop-sink : goal.invariant-loop-sink
invariant-loop-sink l = record {
  sizes : All (λ s. s.n ≡ l.n) l.sink-iterator.rest.items;
  size : length l.parts.items ≡ l.n / range_width l.n + 1;
  entries : (r : ℕ) (d : Part) → r < length l.parts.items → (get_or l.parts.items r d).entries.items ++ ranges_at l.sink-iterator.rest.items r ≡ ranges_at l.fn.sinks.items r;
}
