-- The k nearest of a set of points, as the rows of an index tell them (pruned landmark labelling, SIGMOD 2013).
use Rattle.std.specs.Prelude.{◌≡◌, ◌⊎◌, ℕ, ◌<◌, ◌≤◌, List, Some, All, AllPairs, Contains, length}
use Rattle.walk_laws.specs.declared.entry.Entry.{Entry}
use Rattle.walk_laws.specs.Meet.{IsMeet}
use Rattle.near_points.specs.declared.hit.Hit.{Hit}

-- the nearer hit comes first, and of two that are as near the lower node
abbrev pub IsBefore : Hit → Hit → Type 0
IsBefore a b = (a.dist < b.dist) ⊎ ((a.dist ≡ b.dist) × (a.node < b.node))

-- in their order the first k, or all if fewer, of the hits that are right
pub record AreFirst (IsRight : Hit → Type 0) (k : ℕ) (hits : List Hit) : Type 0 where
  pub each : All IsRight hits
  pub rising : AllPairs IsBefore hits
  pub few : length hits ≤ k
  pub others : (h : Hit) → IsRight h → Contains hits h ⊎ ((length hits ≡ k) × All (λ x. IsBefore x h) hits)

-- a point, at the distance that the rows of the source and of the point say
pub record IsPointAway (at : List ℕ) (rows : List (List Entry)) (points : List ℕ) (source : ℕ) (hit : Hit) : Type 0 where
  pub point : Contains points hit.node
  pub hub : ℕ
  pub meet : IsMeet at rows source hit.node (Some (hit.dist, hub))

-- the first k of the points, each at its distance from the source
abbrev pub IsNearest : List ℕ → List (List Entry) → List ℕ → ℕ → ℕ → List Hit → Type 0
IsNearest at rows points source k hits = AreFirst (IsPointAway at rows points source) k hits
