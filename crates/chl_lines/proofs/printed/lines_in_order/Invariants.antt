use Rattle.std.proofs.Common.{◌≡◌, ◌++◌, drop, map}
use Rattle.hub_query.specs.Meant.{meant}
use Rattle.chl_lines.specs.PrintedAnswers.{answer_lines}
use Rattle.chl_lines.proofs.printed.lines_in_order.Given as goal

-- the lines so far, and then those of the other pairs
abbrev pub invariant-loop-i : goal.invariant-loop-i
invariant-loop-i l =
    l.text.items ++ answer_lines (drop l.i l.pairs) (map meant (drop l.i l.answers)) ≡ answer_lines l.pairs (map meant l.answers)
