use Rattle.std.proofs.Common.{◌≡◌, [], replicate}
use Rattle.label_rows.proofs.rows.roomy_rows.Given as goal

-- an empty row for each round
abbrev pub invariant-loop : goal.invariant-loop
invariant-loop l = l.rows.items ≡ replicate l.counter []
