use Rattle.std.proofs.Common.{◌≡◌, ℕ, List, flat_map, length, take}
use Rattle.walk_laws.specs.declared.graph.Edge.{Edge}
use Rattle.walk_laws.specs.Labelling.{label_row}
use Rattle.hub_index.specs.NodeEntries.{entries_of_node}
use Rattle.hub_index.specs.Views.{GoesOnFrom, IsNode}
use Rattle.label_clean.specs.Below.{IsRowBelow}
use Rattle.label_clean.specs.Joining.{JoinsRow, JoinsUnder}
use Rattle.label_clean.specs.RootRuns.{HasHubs}
use Rattle.label_clean.specs.RunLists.{all_entries, part_of}
use Rattle.label_clean.proofs.taking.take_in.Given as goal

-- of the runs so far each row has the hubs
abbrev pub invariant-loop-turn : goal.invariant-loop-turn
invariant-loop-turn l = record {
  size : length l.rows ≡ length l.fn.rows;
  stays : (k : ℕ) → IsNode (length l.fn.rows) k → GoesOnFrom (label_row l.fn.rows k) (label_row l.rows k);
  hubs : (edges : List Edge) (at : List ℕ) (c k v : ℕ) → IsNode (length l.fn.rows) k → JoinsUnder edges at l.hub_rows.first c l.hub_rows.rows v → IsRowBelow edges at l.hub_rows.first v (label_row l.fn.rows k) → JoinsRow edges at l.hub_rows.first c v (entries_of_node (all_entries l.lists) k)
      → HasHubs edges at v (label_row l.fn.rows k) (entries_of_node (flat_map (part_of l.lists) (take l.turn-index l.turn-items)) k) (label_row l.rows k);
}
