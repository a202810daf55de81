use Rattle.std.proofs.Common.{map}
use Rattle.pruned_tree.specs.Relaxed.{IsRelaxed}
use Rattle.pruned_tree.proofs.growing.relax.Given as goal

abbrev pub invariant-loop-arc : goal.invariant-loop-arc
invariant-loop-arc g l = IsRelaxed l.ranking l.p l.dist l.arc-index (map (λ a. g.A.AnyArc.arc a) l.arcs) l.initial.frontier l.frontier
