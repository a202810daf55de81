-- A frontier that was offered the starts of a tree.
use Rattle.std.specs.Prelude.{◌≡◌, ℕ, ◌≤◌, List, Contains, length}
use Rattle.frontier.specs.declared.reach.Reach.{Reach}
use Rattle.frontier.specs.Reaches.{reach_at}
use Rattle.pruned_tree.specs.declared.bare.Bare.{Bare}
use Rattle.pruned_tree.specs.Relaxed.{HasDistance, IsSettledAt}
use Rattle.resumed_tree.specs.declared.resuming.Start.{Start}

-- of k nodes just those of the starts are reached, each by a start and as near as by each of its own, and none is settled
pub record HasStarts (k : ℕ) (starts : List Start) (nodes : List (Reach Bare)) : Type 0 where
  pub size : length nodes ≡ k
  pub came : (x d : ℕ) → HasDistance (reach_at nodes x) d → (s : Start) × Contains starts s × (s.node ≡ x) × (s.dist ≡ d)
  pub waits : (x d : ℕ) → IsSettledAt (reach_at nodes x) d → ⊥
  pub near : (s : Start) → Contains starts s → (e : ℕ) × HasDistance (reach_at nodes s.node) e × (e ≤ s.dist)
