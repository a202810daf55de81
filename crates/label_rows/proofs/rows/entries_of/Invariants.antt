use Rattle.std.proofs.Common.{◌≡◌, ◌++◌, map}
use Rattle.label_rows.proofs.rows.entries_of.Given as goal

-- with the rows to come they are all rows
abbrev pub invariant-loop-row : goal.invariant-loop-row
invariant-loop-row l = map (λ row. row.items) l.list.items ++ l.row-iterator.rest.items ≡ l.fn.rows.items
