-- Least walk lengths (DIMACS challenge 9).
use Rattle.std.specs.Prelude.{ℕ, ◌≤◌}
use Rattle.walk_laws.specs.Walk.{HasWalk}

-- d is the least length of a walk from u to v: some walk has it, and none is shorter
pub record IsLeast (J : ℕ → ℕ → ℕ → Type 0) (u v d : ℕ) : Type 0 where
  pub walk : HasWalk J u v d
  pub none_shorter : (e : ℕ) → HasWalk J u v e → d ≤ e

-- no walk leads from u to v
abbrev pub AreApart : (ℕ → ℕ → ℕ → Type 0) → ℕ → ℕ → Type 0
AreApart J u v = (d : ℕ) → ¬ HasWalk J u v d
