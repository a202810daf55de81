use Rattle.std.proofs.Common.{◌≡◌, ◌≢◌, ℕ, ◌<◌, All, Contains, drop, length}
use Rattle.frontier.specs.declared.reach.Reach.TheVariants.{Unreached}
use Rattle.frontier.specs.Reaches.{reach_at}
use Rattle.frontier.proofs.frontier.Frontier.clear.Given as goal

-- each node that is still reached is to come
abbrev pub invariant-loop-node : goal.invariant-loop-node
invariant-loop-node g l = record {
  size : length l.self-inside.1.0 ≡ length l.initial.self-inside.1.0;
  reached : (x : ℕ) → reach_at l.self-inside.1.0 x ≢ Unreached → Contains (drop l.node-index l.node-items) x;
  nodes : All (λ x. x < length l.self-inside.1.0) l.node-items;
}
