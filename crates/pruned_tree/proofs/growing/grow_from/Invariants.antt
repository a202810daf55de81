use Rattle.std.proofs.Common.{◌≡◌, ℕ, ◌+◌, ◌*◌, ◌≤◌, Contains, length, Some}
use Rattle.std.specs.Prelude.{slice_get}
use Rattle.walk_laws.specs.declared.entry.Entry.{Entry}
use Rattle.walk_laws.specs.Graph.{greatest_weight}
use Rattle.walk_laws.specs.Joined.{Joined}
use Rattle.pruned_tree.specs.Grown.{entries_of}
use Rattle.pruned_tree.proofs.ApartPuts.{AreApart}
use Rattle.pruned_tree.proofs.CompleteTrees.{IsComplete}
use Rattle.pruned_tree.proofs.GrownRows.{IsGrowth}
use Rattle.pruned_tree.proofs.TreeCounts.{IsBounded, unsettled}
use Rattle.pruned_tree.proofs.growing.grow_from.Given as goal

-- The view is of the graph and the ranking. The tree has a place for each node, and its walks leave room for the nodes to
-- come; what it put is a growth from the root, and complete as far as it has come; what was seen at first still stands,
-- and no way by hubs that were seen is as short as an entry put; the entries put are counted.
abbrev pub invariant-loop-v : goal.invariant-loop-v
invariant-loop-v g l = record {
  edges : g.R.RowView.edges l.view ≡ l.graph.edges;
  order : g.R.RowView.order l.view ≡ l.ranking;
  kept : g.R.RowView.kept l.view ≡ g.R.RowView.kept l.initial.view;
  size : length l.frontier ≡ l.graph.n + 1;
  bounded : IsBounded (greatest_weight l.graph.edges) ((l.graph.n + 1) * greatest_weight l.graph.edges) l.frontier;
  growth : (h : ℕ) → slice_get l.ranking l.p ≡ Some h → IsGrowth (Joined l.graph.edges) l.ranking h l.p (g.R.RowView.puts l.initial.view) l.frontier (g.R.RowView.puts l.view);
  complete : (h : ℕ) → slice_get l.ranking l.p ≡ Some h → IsComplete (Joined l.graph.edges) l.ranking h l.p (g.R.RowView.puts l.initial.view) (g.R.RowView.seen l.initial.view) l.frontier (g.R.RowView.puts l.view);
  seen : (x : ℕ) (e : Entry) → 1 ≤ x → Contains (g.R.RowView.seen l.initial.view x) e → Contains (g.R.RowView.seen l.view x) e;
  apart : (h : ℕ) → slice_get l.ranking l.p ≡ Some h → AreApart h l.p (g.R.RowView.seen l.initial.view) (g.R.RowView.puts l.initial.view) (g.R.RowView.puts l.view);
  counted : entries_of l.ranking (g.R.RowView.puts l.view) ≡ entries_of l.ranking (g.R.RowView.puts l.initial.view) + l.count;
  few : l.count + unsettled l.frontier ≤ l.graph.n + 1;
}

-- each round settles a node
abbrev pub decreases-loop-v : goal.decreases-loop-v
decreases-loop-v g l = unsettled l.frontier
