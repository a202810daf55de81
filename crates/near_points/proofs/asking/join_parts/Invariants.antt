use Rattle.std.proofs.Common.{List, ◌++◌}
use Rattle.hub_query.specs.Parts.{AreJoined}
use Rattle.near_points.specs.declared.hit.Hit.{Hit}
use Rattle.near_points.proofs.asking.join_parts.Given as goal

-- with the hits of the parts to come they are those of all parts
abbrev pub invariant-loop-part : goal.invariant-loop-part
invariant-loop-part l = (rest : List (List Hit)) → AreJoined (λ part. part) l.part-iterator.rest.items rest → AreJoined (λ part. part) l.fn.parts.items (l.hits ++ rest)
