use Rattle.std.proofs.Common.{◌≡◌}
use Rattle.std.specs.Prelude.{slice_range}
use Rattle.chl_lines.specs.PrintedHits.{near_lines}
use Rattle.chl_lines.proofs.near.lines_between.Given as goal

-- the sources up to i have their lines
abbrev pub invariant-loop-i : goal.invariant-loop-i
invariant-loop-i l = l.text.items ≡ near_lines (slice_range l.sources l.begin l.i) (slice_range l.hits l.begin l.i)
