use Rattle.std.proofs.Common.{◌≡◌, ◌++◌, take}
use Rattle.std.specs.Prelude.{codes, flat_map}
use Rattle.std.specs.Fmt.{decimal}
use Rattle.chl_lines.specs.PrintedHits.{hit_words}
use Rattle.chl_lines.proofs.near.print_hits.Given as goal

-- the source and the hits so far
abbrev pub invariant-loop-hit : goal.invariant-loop-hit
invariant-loop-hit l = l.text.items ≡ l.fn.text.items ++ (codes "k " ++ (decimal l.source ++ flat_map hit_words (take l.hit-index l.hits)))
