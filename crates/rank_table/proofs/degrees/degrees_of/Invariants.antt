use Rattle.std.proofs.Common.{◌≡◌, map}
use Rattle.std.specs.List.{range_with_len}
use Rattle.rank_table.specs.ByDegree.{degree}
use Rattle.rank_table.proofs.degrees.degrees_of.Given as goal

-- the nodes up to k have their degrees
abbrev pub invariant-loop-k : goal.invariant-loop-k
invariant-loop-k l = l.degrees.items ≡ map (λ v. record { node = v; degree = degree l.graph.edges v }) (range_with_len 1 l.k)
