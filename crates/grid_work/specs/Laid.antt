-- A grid as its edges are laid one after another.
use Rattle.std.specs.Prelude.{◌≡◌, ℕ, List, [], ◌∷◌, ◌++◌}
use Rattle.grid_work.specs.Grid.{weighted}
use Rattle.grid_work.specs.Weights.{next_number}
use Rattle.grid_work.specs.declared.grid.Laid.{Laid}

-- the last of the numbers after x of which these edges take their weights
abbrev pub number_after : ℕ → List (ℕ × ℕ) → ℕ
number_after x [] = x
number_after x (ends ∷ others) = number_after (next_number x) others

-- edges with these ends are laid after those that stand, with the weights that come next
pub record Lays (old new : Laid) (ends : List (ℕ × ℕ)) : Type 0 where
  pub edges : new.edges.items ≡ old.edges.items ++ weighted old.number ends
  pub number : new.number ≡ number_after old.number ends
