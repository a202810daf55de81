use Rattle.std.proofs.Common.{◌≡◌, take}
use Rattle.chl_lines.specs.PrintedOrders.{order_lines}
use Rattle.chl_lines.proofs.printed.order_lines.Given as goal

-- the nodes up to p have their lines
abbrev pub invariant-loop-p : goal.invariant-loop-p
invariant-loop-p l = l.text.items ≡ order_lines (take l.p l.ranking)
