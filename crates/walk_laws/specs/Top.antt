-- The highest-ranked node on any shortest walk (Planting Trees, PVLDB 2019).
use Rattle.std.specs.Prelude.{ℕ, List}
use Rattle.walk_laws.specs.On.{IsOn}
use Rattle.walk_laws.specs.Ranking.{RanksAbove}

-- x is on a shortest walk from u to v, and no node on one ranks above x
pub record IsTop (J : ℕ → ℕ → ℕ → Type 0) (at : List ℕ) (u v x : ℕ) : Type 0 where
  pub on : IsOn J u x v
  pub highest : (y : ℕ) → IsOn J u y v → ¬ RanksAbove at y x
