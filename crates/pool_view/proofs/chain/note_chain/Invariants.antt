use Rattle.std.proofs.Common.{◌≡◌}
use Rattle.hub_index.specs.RootDistances.{noted}
use Rattle.label_pool.specs.Chains.{entries_of}
use Rattle.pool_view.proofs.Walks.{IsWalking}
use Rattle.pool_view.proofs.chain.note_chain.Given as goal

-- the entries that the walk gave were noted
abbrev pub invariant-loop : goal.invariant-loop
invariant-loop l = IsWalking l.pool l.fn.seat l.v l.seat l.walk l.counter (λ prefix. l.table ≡ noted l.fn.table (entries_of prefix))
