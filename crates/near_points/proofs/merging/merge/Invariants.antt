use Rattle.std.proofs.Common.{◌-◌, ◌≤◌, length, heap_items}
use Rattle.std.specs.List.{sum_by}
use Rattle.near_points.specs.Merging.{HasLeastFirst, IsMerged}
use Rattle.near_points.proofs.merging.merge.Given as goal

abbrev pub invariant-loop-cursors : goal.invariant-loop-cursors
invariant-loop-cursors l = record {
  heap : HasLeastFirst (heap_items l.cursors);
  merged : IsMerged l.words l._row (heap_items l.cursors) l.given l.hits.items;
  few : length l.hits.items ≤ l.k;
}

-- how many places the cursors have before them in all
abbrev pub decreases-loop-cursors : goal.decreases-loop-cursors
decreases-loop-cursors l = sum_by (λ c. length l.words - c.at) (heap_items l.cursors)
