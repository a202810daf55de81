use Rattle.std.proofs.Common.{◌≡◌, map, take}
use Rattle.walk_laws.specs.ArcRows.{widened}
use Rattle.walk_laws.proofs.arc_row.narrow_arcs.Given as goal

-- the arcs so far
abbrev pub invariant-loop-arc : goal.invariant-loop-arc
invariant-loop-arc l = map (λ a. widened a) l.narrow.items ≡ take l.arc-index l.arcs
