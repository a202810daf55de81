use Rattle.std.proofs.Common.{heap_items}
use Rattle.near_points.specs.Merging.{HasLeastFirst}
use Rattle.near_points.proofs.Begun.{Begun}
use Rattle.near_points.proofs.merging.begin.Given as goal

abbrev pub invariant-loop-left : goal.invariant-loop-left
invariant-loop-left l = record {
  heap : HasLeastFirst (heap_items l.cursors);
  begun : Begun l.words l.row (heap_items l.cursors) l.left;
}

abbrev pub decreases-loop-left : goal.decreases-loop-left
decreases-loop-left l = l.left
