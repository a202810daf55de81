-- The starts of one hub after another.
use Rattle.std.specs.Prelude.{◌≡◌, ◌<◌, ℕ, List, ◌++◌, All, length}
use Rattle.resumed_tree.specs.declared.resuming.Start.{Start}

-- the starts begin with some of one hub, at the position p, of which there is one at least
pub record BeginsWithHub (starts : List Start) (p : ℕ) (group others : List Start) : Type 0 where
  pub both : starts ≡ group ++ others
  pub fewer : length others < length starts
  pub hub : All (λ s. s.hub ≡ p) group
