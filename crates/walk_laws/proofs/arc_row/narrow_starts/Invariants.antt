use Rattle.std.proofs.Common.{◌≡◌, take}
use Rattle.walk_laws.proofs.arc_row.narrow_starts.Given as goal

-- the starts so far
abbrev pub invariant-loop-start : goal.invariant-loop-start
invariant-loop-start l = l.narrow.items ≡ take l.start-index l.starts
