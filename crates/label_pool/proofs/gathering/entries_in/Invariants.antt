use Rattle.std.proofs.Common.{List}
use Rattle.std.specs.Slots.{slots_items}
use Rattle.label_pool.specs.declared.rule.Linked.{Linked}
use Rattle.label_pool.specs.Chains.{IsWritten}
use Rattle.label_pool.proofs.Walked.{IsWalked}
use Rattle.label_pool.proofs.gathering.entries_in.Given as goal

-- a prefix of the chain was walked, a cell for each round
abbrev pub invariant-loop : goal.invariant-loop
invariant-loop l = (chain : List Linked) → IsWritten l.n l.cells (slots_items l.closed.words) l.v chain → IsWalked chain l.at l.counter l.entries.items
