use Rattle.std.proofs.Common.{◌≡◌, ◌++◌, map, take}
use Rattle.label_clean.specs.RunLists.{turn_of}
use Rattle.label_clean.proofs.turns.add_turns.Given as goal

-- the runs so far stand after the others
abbrev pub invariant-loop-run : goal.invariant-loop-run
invariant-loop-run l = l.turns.items ≡ l.fn.turns.items ++ map (turn_of l.list) (take l.run-index l.runs)
