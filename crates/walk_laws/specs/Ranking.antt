-- A ranking of the nodes 1..n: the list of them, highest rank first.
use Rattle.std.specs.Prelude.{ℕ, ◌+◌, ◌<◌, ◌≤◌, ◌==◌, List, [], ◌∷◌, length, All, nat_eq, if◌then◌else◌}
use Rattle.std.specs.List.{IsDistinct}

-- the numbers 1..n, each once, n being the length
pub record IsRanking (at : List ℕ) : Type 0 where
  pub node : All (λ v. (1 ≤ v) × (v ≤ length at)) at
  pub once : IsDistinct nat_eq at

-- the position of a node: its place in the list, from 0
abbrev pub position_of : List ℕ → ℕ → ℕ
position_of [] v = 0
position_of (x ∷ at) v = if v == x then 0 else position_of at v + 1

-- a node with a smaller position ranks above one with a greater
abbrev pub RanksAbove : List ℕ → ℕ → ℕ → Type 0
RanksAbove at x y = position_of at x < position_of at y
