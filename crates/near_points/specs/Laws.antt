-- The laws of the nearest points. `laws` has a public function for each.
use Rattle.std.specs.Prelude.{◌≡◌, ◌≢◌, ◌↔◌, ℕ, ◌≤◌, ◌<◌, List, All, Contains, length}
use Rattle.walk_laws.specs.declared.graph.Edge.{Edge}
use Rattle.walk_laws.specs.declared.entry.Entry.{Entry}
use Rattle.walk_laws.specs.Joined.{Joined}
use Rattle.walk_laws.specs.Labelling.{IsChl}
use Rattle.walk_laws.specs.Laws.{WeighAtLeastOne}
use Rattle.walk_laws.specs.Least.{IsLeast, AreApart}
use Rattle.walk_laws.specs.Ranking.{IsRanking}
use Rattle.hub_index.specs.WellFormed.{IsWellFormed}
use Rattle.near_points.specs.declared.hit.Hit.{Hit}
use Rattle.near_points.specs.Nearest.{IsNearest}

-- the nodes are among 1..n
abbrev pub AreNodes : ℕ → List ℕ → Type 0
AreNodes n nodes = All (λ v. (1 ≤ v) × (v ≤ n)) nodes

-- each source has nearest points, whatever the index is
abbrev pub EachSourceHasNearest : Type 0
EachSourceHasNearest = (at : List ℕ) (rows : List (List Entry)) (points : List ℕ) (source k : ℕ) → IsWellFormed at rows → AreNodes (length at) points → 1 ≤ source → source ≤ length at → (hits : List Hit) × IsNearest at rows points source k hits

-- and only one list of them is right
abbrev pub TheNearestAreUnique : Type 0
TheNearestAreUnique = (at : List ℕ) (rows : List (List Entry)) (points : List ℕ) (source k : ℕ) (hits others : List Hit) → IsNearest at rows points source k hits → IsNearest at rows points source k others → hits ≡ others

-- of the canonical hub labelling, the distance of each is the least length of a walk
abbrev pub TheDistancesAreLeast : Type 0
TheDistancesAreLeast = (edges : List Edge) (at : List ℕ) (rows : List (List Entry)) (points : List ℕ) (source k : ℕ) (hits : List Hit) → WeighAtLeastOne edges → IsRanking at → IsChl (Joined edges) at rows → AreNodes (length at) points → 1 ≤ source → source ≤ length at → IsNearest at rows points source k hits → All (λ h. IsLeast (Joined edges) source h.node h.dist) hits

-- and where fewer than k are given, the points that are missing are those to which no walk leads
abbrev pub TheMissingAreApart : Type 0
TheMissingAreApart = (edges : List Edge) (at : List ℕ) (rows : List (List Entry)) (points : List ℕ) (source k v : ℕ) (hits : List Hit) → WeighAtLeastOne edges → IsRanking at → IsChl (Joined edges) at rows → AreNodes (length at) points → 1 ≤ source → source ≤ length at → IsNearest at rows points source k hits → length hits < k → Contains points v → All (λ h. h.node ≢ v) hits ↔ AreApart (Joined edges) source v
