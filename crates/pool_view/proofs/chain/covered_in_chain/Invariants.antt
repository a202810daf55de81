use Rattle.std.proofs.Common.{All, Contains, IfSome, IfNone}
use Rattle.hub_index.specs.RootDistances.{IsCover}
use Rattle.label_pool.specs.Chains.{entries_of}
use Rattle.pool_view.proofs.Walks.{IsWalking}
use Rattle.pool_view.proofs.chain.covered_in_chain.Given as goal

-- the first of the entries given that covers, or none of them does
abbrev pub invariant-loop : goal.invariant-loop
invariant-loop l = IsWalking l.pool l.fn.seat l.v l.seat l.walk l.counter (λ prefix.
    IfSome l.cover (λ c. Contains (entries_of prefix) c × IsCover l.table l.pos l.dist c)
    × IfNone l.cover (All (λ c. ¬ IsCover l.table l.pos l.dist c) (entries_of prefix)))
