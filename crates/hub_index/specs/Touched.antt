-- Which positions of a table have a distance.
use Rattle.std.specs.Prelude.{◌≡◌, ◌≢◌, ◌↔◌, ℕ, ◌-◌, ◌^◌, ◌<◌, ◌≤◌, min, List, Option, Some, None, All, AllPairs, Contains, length, take}
use Rattle.hub_index.specs.RootDistances.{root_distance}

-- the first `count` of the touched positions are those that have a distance, each once
pub record HasTouched (table : List (Option ℕ)) (touched : List ℕ) (count : ℕ) : Type 0 where
  pub room : length touched ≡ length table
  pub few : count ≤ length touched
  pub once : AllPairs (λ x y. x ≢ y) (take count touched)
  pub within : All (λ x. x < length table) (take count touched)
  pub each : (p : ℕ) → (root_distance table p ≢ None) ↔ Contains (take count touched) p

-- the distance as it is tested first, where none is 2^32 - 1, and so is a greater one
abbrev pub clamped_of : Option ℕ → ℕ
clamped_of None = 2 ^ 32 - 1
clamped_of (Some d) = min d (2 ^ 32 - 1)
