-- Walks over any relation of arcs, where J x y w says that an arc of weight w leads from x to y (DIMACS challenge 9).
use Rattle.std.specs.Prelude.{◌≡◌, ℕ, ◌+◌, List, [], ◌∷◌, map}

-- one step of a walk
pub record Step : Type 0 where
  pub from : ℕ
  pub to : ℕ
  pub weight : ℕ

-- the steps lead from u to v: the first begins at u, each begins where the one before ended, and the last ends at v
abbrev pub IsWalk : (ℕ → ℕ → ℕ → Type 0) → ℕ → List Step → ℕ → Type 0
IsWalk J u [] v = u ≡ v
IsWalk J u (s ∷ steps) v = (s.from ≡ u) × J s.from s.to s.weight × IsWalk J s.to steps v

-- the length of a walk: the sum of its weights
abbrev pub walk_length : List Step → ℕ
walk_length [] = 0
walk_length (s ∷ steps) = s.weight + walk_length steps

-- the nodes that a walk from u passes, in order, both ends counted
abbrev pub nodes_of : ℕ → List Step → List ℕ
nodes_of u steps = u ∷ map (λ s. s.to) steps

-- some walk of length d leads from u to v
pub record HasWalk (J : ℕ → ℕ → ℕ → Type 0) (u v d : ℕ) : Type 0 where
  pub steps : List Step
  pub walk : IsWalk J u steps v
  pub long : walk_length steps ≡ d
