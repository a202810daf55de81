-- The nodes on shortest walks (Planting Trees, PVLDB 2019).
use Rattle.std.specs.Prelude.{ℕ, List, Contains}
use Rattle.walk_laws.specs.Walk.{Step, IsWalk, walk_length, nodes_of}
use Rattle.walk_laws.specs.Least.{IsLeast}

-- some walk from u to v of least length passes x, both ends counted
pub record IsOn (J : ℕ → ℕ → ℕ → Type 0) (u x v : ℕ) : Type 0 where
  pub steps : List Step
  pub walk : IsWalk J u steps v
  pub least : IsLeast J u v (walk_length steps)
  pub passes : Contains (nodes_of u steps) x
