use Rattle.std.proofs.Common.{◌≡◌, [], All, length}
use Rattle.entry_sinks.proofs.gathering.empty_parts.Given as goal

-- an empty part for each round
abbrev pub invariant-loop : goal.invariant-loop
invariant-loop l = record {
  size : length l.parts.items ≡ l.counter;
  empty : All (λ part. part.entries.items ≡ []) l.parts.items;
}
