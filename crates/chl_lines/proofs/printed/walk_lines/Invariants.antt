use Rattle.std.proofs.Common.{◌≡◌, ◌++◌, drop}
use Rattle.chl_lines.specs.PrintedWalks.{walk_lines}
use Rattle.chl_lines.proofs.printed.walk_lines.Given as goal

-- the lines so far, and then those of the other pairs
abbrev pub invariant-loop-i : goal.invariant-loop-i
invariant-loop-i l =
    l.text.items ++ walk_lines (drop l.i l.pairs) (drop l.i l.walks) ≡ walk_lines l.pairs l.walks
