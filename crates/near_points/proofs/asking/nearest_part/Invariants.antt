use Rattle.std.proofs.Common.{◌≡◌, ◌+◌, length, take}
use Rattle.std.specs.List.{AllZip}
use Rattle.near_points.specs.Merging.{AreMarked}
use Rattle.near_points.specs.PointSets.{IsNearestOf}
use Rattle.near_points.proofs.asking.nearest_part.Given as goal

-- the sources so far have their hits
abbrev pub invariant-loop-source : goal.invariant-loop-source
invariant-loop-source l = record {
  size : length l.workspace.given.items ≡ length l.index.order + 1;
  marked : AreMarked l.workspace.given.items l.workspace.hits.items;
  told : AllZip (IsNearestOf l.points l.k) (take l.source-index l.sources) l.hits;
}
