-- The via of an entry: the node before the row's node on a shortest walk from the hub (pruned landmark labelling, SIGMOD 2013, on shortest walks).
use Rattle.std.specs.Prelude.{◌≡◌, ◌⊎◌, ℕ, ◌+◌, ◌≤◌}
use Rattle.walk_laws.specs.Least.{IsLeast}

-- a shortest walk from h to v, of length d, comes from y to v by its last step
pub record IsBefore (J : ℕ → ℕ → ℕ → Type 0) (h v d y : ℕ) : Type 0 where
  pub weight : ℕ
  pub before : ℕ
  pub least : IsLeast J h y before
  pub arc : J y v weight
  pub long : before + weight ≡ d

-- and y is the least such node
pub record IsFirstBefore (J : ℕ → ℕ → ℕ → Type 0) (h v d y : ℕ) : Type 0 where
  pub before : IsBefore J h v d y
  pub least : (z : ℕ) → IsBefore J h v d z → y ≤ z

-- the via of the hub h of v, at distance d: 0 where that is v itself, else the least node before v
abbrev pub IsVia : (ℕ → ℕ → ℕ → Type 0) → ℕ → ℕ → ℕ → ℕ → Type 0
IsVia J h v d y = ((d ≡ 0) × (y ≡ 0)) ⊎ ((1 ≤ d) × IsFirstBefore J h v d y)
