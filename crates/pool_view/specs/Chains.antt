-- Chains through a list of entries of many nodes.
use Rattle.std.specs.Prelude.{◌≡◌, ℕ, ◌-◌, ◌<◌, ◌≤◌, List, get_or, length, reverse, take}
use Rattle.hub_index.specs.declared.node_entry.NodeEntry.{NodeEntry}
use Rattle.hub_index.specs.NodeEntries.{entries_of_node}
use Rattle.hub_index.specs.Views.{IsNode}
use Rattle.pool_view.specs.Links.{IsChain}
use Rattle.pool_view.specs.declared.chains.Chains.{Chains}

-- there are n chains, all empty
pub record AreEmpty (n : ℕ) (chains : Chains) : Type 0 where
  pub size : length chains.heads.items ≡ n
  pub none : (k : ℕ) → k < n → get_or chains.heads.items k 0 ≡ 0

-- the head of the chain of the node v
abbrev pub head_of : Chains → ℕ → ℕ
head_of chains v = get_or chains.heads.items (v - 1) 0

-- so many of the entries are chained, those of each node from the last one on
pub record AreChained (entries : List NodeEntry) (many : ℕ) (chains : Chains) : Type 0 where
  pub count : length chains.nexts.items ≡ many
  pub within : many ≤ length entries
  pub chain : (v : ℕ) → IsNode (length chains.heads.items) v → IsChain entries chains.nexts.items (head_of chains v) (reverse (entries_of_node (take many entries) v))
  pub head : (v : ℕ) (d : NodeEntry) → IsNode (length chains.heads.items) v → 1 ≤ head_of chains v → (head_of chains v ≤ many) × ((get_or entries (head_of chains v - 1) d).node ≡ v)
