use Rattle.std.proofs.Common.{◌≡◌, drop, length, map}
use Rattle.plant_tree.specs.Relaxed.{relaxed_all}
use Rattle.plant_tree.specs.Wanted.{wanted}
use Rattle.plant_tree.proofs.planter.relax.Given as goal

-- what the other arcs do from here is what all of them do from the start
abbrev pub invariant-loop-arc : goal.invariant-loop-arc
invariant-loop-arc g l = record {
  size : length l.frontier ≡ length l.initial.frontier;
  rest : relaxed_all l.ranking l.found (drop l.arc-index (map (λ a. g.A.AnyArc.arc a) l.arcs)) l.frontier ≡ relaxed_all l.ranking l.found (map (λ a. g.A.AnyArc.arc a) l.arcs) l.initial.frontier;
  count : l.wanted ≡ wanted l.p l.frontier;
}
