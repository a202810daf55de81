use Rattle.std.proofs.Common.{◌≡◌, drop, take}
use Rattle.dimacs_text.specs.Counted.{are_within}
use Rattle.dimacs_text.proofs.counted_lines.counts_within.Given as goal

-- the numbers so far are within their limits, and are the counts
abbrev pub invariant-loop-place : goal.invariant-loop-place
invariant-loop-place l = record {
  within : are_within (drop l.place l.limits) (drop l.place l.numbers) ≡ are_within l.limits l.numbers;
  same : l.counts.items ≡ take l.place l.numbers;
}
