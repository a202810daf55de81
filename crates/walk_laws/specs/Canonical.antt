-- Canonical hubs (Planting Trees, PVLDB 2019).
use Rattle.std.specs.Prelude.{ℕ, List}
use Rattle.walk_laws.specs.Least.{IsLeast}
use Rattle.walk_laws.specs.On.{IsOn}
use Rattle.walk_laws.specs.Ranking.{RanksAbove}

-- h is a hub of v at distance d: d is the least length between them, and no node on a shortest walk ranks above h
pub record IsCanonical (J : ℕ → ℕ → ℕ → Type 0) (at : List ℕ) (h v d : ℕ) : Type 0 where
  pub least : IsLeast J h v d
  pub highest : (x : ℕ) → IsOn J h x v → ¬ RanksAbove at x h
