-- A set of points of an index.
use Rattle.std.specs.Prelude.{ℕ, List}
use Rattle.hub_index.specs.HubIndex.{HubIndex}
use Rattle.near_points.specs.declared.hit.Hit.{Hit}
use Rattle.near_points.specs.Nearest.{IsNearest}

-- the index, and the nodes that are its points
pub record PointSet : Type 0 where
  pub index : HubIndex
  pub nodes : List ℕ

-- the nearest k of its points to the source
abbrev pub IsNearestOf : PointSet → ℕ → ℕ → List Hit → Type 0
IsNearestOf points k source hits = IsNearest points.index.order points.index.rows points.nodes source k hits
