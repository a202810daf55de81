-- Rows that an index may have.
use Rattle.std.specs.Prelude.{◌≡◌, ℕ, ◌^◌, ◌≤◌, ◌<◌, List, [], ◌∷◌, ◌++◌, All, length, map}
use Rattle.std.specs.List.Sorted.{IsStrictlyIncreasing}
use Rattle.walk_laws.specs.declared.entry.Entry.{Entry}
use Rattle.walk_laws.specs.Ranking.{IsRanking, position_of}
use Rattle.walk_laws.specs.Labelling.{label_row}

-- the entry of a node in its own row: its position, at distance 0
abbrev pub own_entry : List ℕ → ℕ → Entry
own_entry at v = record { pos = position_of at v; dist = 0 }

-- positions rise strictly, the node's own entry is the last, and every other distance is 1..2^64-1
pub record IsWellFormedRow (at : List ℕ) (v : ℕ) (row : List Entry) : Type 0 where
  pub rising : IsStrictlyIncreasing (map (λ e. e.pos) row)
  pub others : List Entry
  pub ends : row ≡ others ++ own_entry at v ∷ []
  pub far : All (λ e. (1 ≤ e.dist) × (e.dist < 2 ^ 64)) others

-- a ranking of at most 2^30 nodes, and a well formed row for each of them
pub record IsWellFormed (at : List ℕ) (rows : List (List Entry)) : Type 0 where
  pub ranking : IsRanking at
  pub small : length at ≤ 2 ^ 30
  pub size : length rows ≡ length at
  pub row : (v : ℕ) → 1 ≤ v → v ≤ length at → IsWellFormedRow at v (label_row rows v)
