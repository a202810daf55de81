-- What a query of a pair of nodes answers (Planting Trees, PVLDB 2019).
use Rattle.std.specs.Prelude.{◌≡◌, ℕ, List, Option, Some, None}
use Rattle.std.specs.Cmp.Lexicographic.{slice_cmp}
use Rattle.std.specs.Ordering.{nat_cmp}
use Rattle.std.specs.declared.cmp.Ordering.TheVariants.{Less}
use Rattle.walk_laws.specs.Walk.{Step, IsWalk, walk_length, nodes_of}
use Rattle.walk_laws.specs.Least.{IsLeast, AreApart}
use Rattle.walk_laws.specs.Top.{IsTop}

-- the least length from u to v and the highest-ranked node on a shortest walk, or None where no walk leads there
abbrev pub IsAnswer : (ℕ → ℕ → ℕ → Type 0) → List ℕ → ℕ → ℕ → Option (ℕ × ℕ) → Type 0
IsAnswer J at u v None = AreApart J u v
IsAnswer J at u v (Some answer) = IsLeast J u v answer.0 × IsTop J at u v answer.1

-- the nodes of a shortest walk from u to v, of length d, and no shortest walk's nodes come before them in lexicographic order
pub record IsFirstShortest (J : ℕ → ℕ → ℕ → Type 0) (u v d : ℕ) (nodes : List ℕ) : Type 0 where
  pub least : IsLeast J u v d
  pub steps : List Step
  pub walk : IsWalk J u steps v
  pub long : walk_length steps ≡ d
  pub passes : nodes_of u steps ≡ nodes
  pub first : (others : List Step) → IsWalk J u others v → walk_length others ≡ d → ¬ (slice_cmp nat_cmp (nodes_of u others) nodes ≡ Less)

-- the least length from u to v and the nodes of the first shortest walk, or None where no walk leads there
abbrev pub IsWalkAnswer : (ℕ → ℕ → ℕ → Type 0) → ℕ → ℕ → Option (ℕ × List ℕ) → Type 0
IsWalkAnswer J u v None = AreApart J u v
IsWalkAnswer J u v (Some answer) = IsFirstShortest J u v answer.0 answer.1
