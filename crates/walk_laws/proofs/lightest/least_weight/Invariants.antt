use Rattle.std.proofs.Common.{◌≤◌, All, Contains, take}
use Rattle.walk_laws.proofs.lightest.least_weight.Given as goal

-- it is a weight of an arc to the first neighbour, and no greater than those of the arcs so far
abbrev pub invariant-loop-arc : goal.invariant-loop-arc
invariant-loop-arc l = record {
  there : Contains l.arcs (record { to = l.first.to; w = l.least });
  least : All (λ a. l.least ≤ a.w) (take l.arc-index l.arcs);
}
