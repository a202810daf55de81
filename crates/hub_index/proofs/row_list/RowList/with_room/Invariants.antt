use Rattle.std.proofs.Common.{◌≡◌, [], map, replicate}
use Rattle.hub_index.proofs.row_list.RowList.with_room.Given as goal

-- an empty row for each number so far
abbrev pub invariant-loop-count : goal.invariant-loop-count
invariant-loop-count l = map (λ row. row.items) l.rows.items ≡ replicate l.count-index []
