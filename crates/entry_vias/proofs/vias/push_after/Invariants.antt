use Rattle.std.proofs.Common.{◌≡◌, ◌+◌, ◌++◌, map, take}
use Rattle.entry_vias.proofs.vias.push_after.Given as goal

-- the places so far
abbrev pub invariant-loop-start : goal.invariant-loop-start
invariant-loop-start l = l.starts.items ≡ l.fn.starts.items ++ map (λ start. start + l.by) (take l.start-index l.more)
