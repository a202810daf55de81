use Rattle.std.proofs.Common.{◌≡◌, ℕ, List, length, map}
use Rattle.std.specs.Slots.{slots_items}
use Rattle.walk_laws.specs.Labelling.{label_row}
use Rattle.hub_index.specs.Views.{IsNode}
use Rattle.label_pool.specs.declared.rule.Linked.{Linked}
use Rattle.label_pool.specs.Chains.{IsWritten, entries_of}
use Rattle.label_pool.proofs.gathering.gathered.Given as goal

-- the rows of the nodes up to the place
abbrev pub invariant-loop-place : goal.invariant-loop-place
invariant-loop-place l = record {
  size : length l.rows.items ≡ l.place;
  rows : (v : ℕ) (chain : List Linked) → IsNode l.place v → IsWritten l.n l.cells (slots_items l.closed.words) v chain → label_row (map (λ row. row.items) l.rows.items) v ≡ entries_of chain;
}
