use Rattle.std.proofs.Common.{take}
use Rattle.plant_build.specs.Marks.{Adds}
use Rattle.plant_build.proofs.collecting.set_marks.Given as goal

-- the numbers so far are marked
abbrev pub invariant-loop-number : goal.invariant-loop-number
invariant-loop-number l = Adds l.fn.come (take l.number-index l.numbers) l.come
