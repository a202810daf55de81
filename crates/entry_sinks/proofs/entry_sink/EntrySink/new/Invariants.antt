use Rattle.std.proofs.Common.{◌≡◌, [], replicate}
use Rattle.entry_sinks.proofs.entry_sink.EntrySink.new.Given as goal

-- an empty range for each round
abbrev pub invariant-loop : goal.invariant-loop
invariant-loop l = l.ranges.items ≡ replicate l.counter []
