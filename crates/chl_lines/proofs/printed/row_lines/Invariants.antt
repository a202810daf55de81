use Rattle.std.proofs.Common.{◌≡◌, ◌-◌, ◌≤◌, ◌++◌, drop}
use Rattle.chl_lines.specs.PrintedRows.{lines_from}
use Rattle.chl_lines.proofs.printed.row_lines.Given as goal

-- the lines so far, and then those of the other rows
abbrev pub invariant-loop-v : goal.invariant-loop-v
invariant-loop-v l =
    (1 ≤ l.v) × (l.text.items ++ lines_from l.index.order l.v (drop (l.v - 1) l.index.rows) ≡ lines_from l.index.order 1 l.index.rows)
