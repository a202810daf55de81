use Rattle.std.proofs.Common.{List}
use Rattle.std.specs.Slots.{slots_items}
use Rattle.walk_laws.specs.declared.entry.Entry.{Entry}
use Rattle.label_pool.specs.declared.rule.Linked.{Linked}
use Rattle.label_pool.specs.Chains.{IsWritten}
use Rattle.label_pool.proofs.Walked.{IsWalked}
use Rattle.label_pool.proofs.gathering.cells_in.Given as goal

-- a prefix of the chain was walked, a cell for each round
abbrev pub invariant-loop-count : goal.invariant-loop-count
invariant-loop-count l = (chain : List Linked) → IsWritten l.n l.cells (slots_items l.closed.words) l.v chain → (entries : List Entry) × IsWalked chain l.at l.count entries
