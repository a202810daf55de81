use Rattle.std.proofs.Common.{◌≡◌, [], map, replicate}
use Rattle.hub_index.proofs.split_rows.SplitRows.with_room.Given as goal

-- an empty row for each round
abbrev pub invariant-loop : goal.invariant-loop
invariant-loop l = map (λ row. row.items) l.compact.items ≡ replicate l.counter []
