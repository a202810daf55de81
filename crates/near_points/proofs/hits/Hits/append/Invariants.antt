use Rattle.std.proofs.Common.{◌≡◌, ◌++◌, take}
use Rattle.near_points.proofs.hits.Hits.append.Given as goal

-- the hits of the sources so far are there
abbrev pub invariant-loop-source : goal.invariant-loop-source
invariant-loop-source l = l.self ≡ l.fn.self ++ take l.source l.others
