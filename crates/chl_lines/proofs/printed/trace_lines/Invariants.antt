use Rattle.std.proofs.Common.{◌≡◌, ◌++◌, drop}
use Rattle.chl_lines.specs.PrintedWalks.{trace_lines}
use Rattle.chl_lines.proofs.printed.trace_lines.Given as goal

-- the lines so far, and then those of the other pairs
abbrev pub invariant-loop-i : goal.invariant-loop-i
invariant-loop-i l =
    l.text.items ++ trace_lines (drop l.i l.pairs) (drop l.i l.traces) ≡ trace_lines l.pairs l.traces
