use Rattle.std.proofs.Common.{◌≡◌, ℕ, List, ◌++◌, length, take}
use Rattle.walk_laws.specs.declared.graph.Edge.{Edge}
use Rattle.walk_laws.specs.declared.entry.Entry.{Entry}
use Rattle.walk_laws.specs.Labelling.{label_row}
use Rattle.hub_index.specs.NodeEntries.{entries_of_node}
use Rattle.hub_index.specs.Views.{GoesOnFrom, IsNode}
use Rattle.label_clean.specs.RootRuns.{HasHubs, JoinsNext}
use Rattle.label_clean.proofs.taking.take_run.Given as goal

-- of the entries so far each row has the hubs'
abbrev pub invariant-loop-entry : goal.invariant-loop-entry
invariant-loop-entry l = record {
  size : length l.rows ≡ length l.fn.rows;
  stays : (k : ℕ) → IsNode (length l.fn.rows) k → GoesOnFrom (label_row l.fn.rows k) (label_row l.rows k);
  hubs : (edges : List Edge) (at : List ℕ) (c k v : ℕ) (before done more : List Entry) → IsNode (length l.fn.rows) k → JoinsNext edges at l.first c l.pos v l.hub_row before done (entries_of_node l.run k) more → HasHubs edges at v before done (label_row l.fn.rows k)
      → HasHubs edges at v before (done ++ entries_of_node (take l.entry-index l.run) k) (label_row l.rows k);
}
