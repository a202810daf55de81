-- A shard of the table in which lists were merged.
use Rattle.std.proofs.Common.{◌≡◌, ℕ, ◌≤◌, List, length, sym, subst, ◌∙◌}
use Rattle.walk_laws.specs.declared.graph.Edge.{Edge}
use Rattle.walk_laws.specs.declared.entry.Entry.{Entry}
use Rattle.walk_laws.specs.Labelling.{label_row}
use Rattle.hub_index.specs.Shards.{node_at, shard_size}
use Rattle.hub_index.specs.NodeEntries.{entries_of_node}
use Rattle.hub_index.specs.Views.{IsNode}
use Rattle.hub_index.proofs.DealtNodes.{place_within}
use Rattle.label_clean.specs.declared.runs.RunList.{RunList}
use Rattle.label_clean.specs.Below.{IsRowBelow}
use Rattle.label_clean.specs.HubRows.{RowsFrom}
use Rattle.label_clean.specs.Joining.{JoinsRow, JoinsUnder}
use Rattle.label_clean.specs.RunLists.{all_entries}
use Rattle.gll_table.specs.Tables.{IsShardBelow}
use Rattle.gll_merge.specs.Merging.{IsMerge}

-- a shard in which lists were merged
pub merged_shard : (edges : List Edge) (at : List ℕ) (shift number first next : ℕ) (lists : List RunList) (hubs : RowsFrom) (old new : List (List Entry)) → IsMerge edges at shift number first next lists hubs → IsShardBelow edges at shift first number old → length new ≡ length old
    → ((es : List Edge) (os : List ℕ) (c k v : ℕ) → IsNode (length old) k → JoinsUnder es os hubs.first c hubs.rows v → IsRowBelow es os hubs.first v (label_row old k) → JoinsRow es os hubs.first c v (entries_of_node (all_entries lists) k) → IsRowBelow es os c v (label_row new k))
    → (next ≤ length at) × IsShardBelow edges at shift next number new
merged_shard edges at shift number first next lists hubs old new task was size rows = (
  task.within,
  record {
    there = was.there;
    size = size ∙ was.size;
    each = λ place node.
        let in_old : IsNode (length old) place = subst (λ m. IsNode m place) size node in
        let in_shard : IsNode (shard_size shift (length at) number) place = subst (λ m. IsNode m place) was.size in_old in
        let v = node_at shift number place in
        rows edges at next place v in_old (task.under v (place_within shift (length at) number place in_shard))
        (subst (λ p. IsRowBelow edges at p (node_at shift number place) (label_row old place)) (sym task.first_is) (was.each place in_old)) (task.joins place in_shard);
  },
)
