use Rattle.std.proofs.Common.{◌≡◌, [], map, replicate}
use Rattle.hub_index.proofs.row_list.RowList.new.Given as goal

-- an empty row for each round
abbrev pub invariant-loop : goal.invariant-loop
invariant-loop l = map (λ row. row.items) l.rows.items ≡ replicate l.counter []
