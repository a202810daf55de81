-- Hubs that make a longer way needless (Planting Trees, PVLDB 2019; pruned landmark labelling, SIGMOD 2013).
use Rattle.std.specs.Prelude.{ℕ, ◌+◌, ◌≤◌, List}
use Rattle.walk_laws.specs.Least.{IsLeast}
use Rattle.walk_laws.specs.Canonical.{IsCanonical}
use Rattle.walk_laws.specs.Ranking.{RanksAbove}

-- a hub of both h and v that ranks above h, and by way of which a shortest walk leads, no longer than d
pub record CoveringHub (J : ℕ → ℕ → ℕ → Type 0) (at : List ℕ) (h v d : ℕ) : Type 0 where
  pub hub : ℕ
  pub before : ℕ
  pub after : ℕ
  pub above : RanksAbove at hub h
  pub to_start : IsCanonical J at hub h before
  pub to_end : IsCanonical J at hub v after
  pub least : IsLeast J h v (before + after)
  pub short : before + after ≤ d
