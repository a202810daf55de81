-- Canonical distances that no index can keep.
use Rattle.std.specs.Prelude.{◌≡◌, ◌⊎◌, ℕ, ◌^◌, ◌<◌, ◌≤◌, List}
use Rattle.walk_laws.specs.Canonical.{IsCanonical}
use Rattle.walk_laws.specs.Ranking.{position_of}

-- h is a hub of v, at a distance above 2^64-1
pub record IsTooFar (J : ℕ → ℕ → ℕ → Type 0) (at : List ℕ) (h v : ℕ) : Type 0 where
  pub dist : ℕ
  pub canonical : IsCanonical J at h v dist
  pub far : 2 ^ 64 ≤ dist

-- some hub is too far
abbrev pub Overflows : (ℕ → ℕ → ℕ → Type 0) → List ℕ → Type 0
Overflows J at = (h : ℕ) × (v : ℕ) × IsTooFar J at h v

-- the hub h of the node v is the first that is too far, by rising node and then by rising position of the hub
pub record IsFirstTooFar (J : ℕ → ℕ → ℕ → Type 0) (at : List ℕ) (h v : ℕ) : Type 0 where
  pub there : IsTooFar J at h v
  pub first : (k w : ℕ) → IsTooFar J at k w → (v < w) ⊎ ((v ≡ w) × (position_of at h ≤ position_of at k))
