use Rattle.std.proofs.Common.{◌≡◌, ℕ, ◌+◌, ◌≤◌, ◌++◌, length, map, take}
use Rattle.walk_laws.specs.Labelling.{label_row}
use Rattle.hub_index.specs.NodeEntries.{entries_of_node}
use Rattle.entry_sinks.proofs.gathering.place_entries.Given as goal

-- each row has gained what the entries so far give it
abbrev pub invariant-loop-e : goal.invariant-loop-e
invariant-loop-e g l = record {
  size : length l.rows ≡ length l.fn.rows;
  gains : (v : ℕ) → 1 ≤ v → v ≤ length l.fn.rows → label_row l.rows v ≡ label_row l.fn.rows v ++ entries_of_node (take l.e-index (map (λ e. g.E.AnyNodeEntry.entry e) l.entries)) (l.before + v);
}
