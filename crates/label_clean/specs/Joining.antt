-- Entries that join the rows of nodes, row by row, by way of the rows of their hubs.
use Rattle.std.specs.Prelude.{◌≡◌, ℕ, ◌+◌, ◌-◌, ◌<◌, ◌≤◌, List, [], Some, All, Contains, get_or, length, map, slice_get}
use Rattle.std.specs.List.Sorted.{IsStrictlyIncreasing}
use Rattle.walk_laws.specs.declared.graph.Edge.{Edge}
use Rattle.walk_laws.specs.declared.entry.Entry.{Entry}
use Rattle.walk_laws.specs.Joined.{Joined}
use Rattle.walk_laws.specs.Labelling.{EntryFits, IsHubEntry}
use Rattle.walk_laws.specs.Laws.{WeighAtLeastOne}
use Rattle.walk_laws.specs.Ranking.{IsRanking}
use Rattle.hub_index.specs.Views.{IsNode}
use Rattle.label_clean.specs.RawRows.{HasEachOnce}

-- a hub of the hub of e and of v with a position below p, by way of which it is no farther from one to the other than e says
pub record IsCoveredBelow (edges : List Edge) (at : List ℕ) (p v : ℕ) (e : Entry) : Type 0 where
  pub hub : ℕ
  pub hub_is : slice_get at e.pos ≡ Some hub
  pub of_hub : Entry
  pub of_node : Entry
  pub is_hubs : IsHubEntry (Joined edges) at hub of_hub
  pub is_nodes : IsHubEntry (Joined edges) at v of_node
  pub shared : of_hub.pos ≡ of_node.pos
  pub below : of_hub.pos < p
  pub short : of_hub.dist + of_node.dist ≤ e.dist

-- entries that join the row of v: only such as may stand in it, with positions from p on and below c, at most one of each hub, every hub of v there, and none that hubs below p cover
pub record JoinsRow (edges : List Edge) (at : List ℕ) (p c v : ℕ) (entries : List Entry) : Type 0 where
  pub fit : All (EntryFits (Joined edges) at v) entries
  pub from : All (λ e. p ≤ e.pos) entries
  pub below : All (λ e. e.pos < c) entries
  pub once : HasEachOnce entries
  pub hubs : (e : Entry) → IsHubEntry (Joined edges) at v e → p ≤ e.pos → e.pos < c → Contains entries e
  pub apart : All (λ e. ¬ IsCoveredBelow edges at p v e) entries

-- a late row of the node h, whose position is q: by rising position, only entries that may stand in the row of h, from p on, and every hub of h from p on and below q
pub record IsHubRow (edges : List Edge) (at : List ℕ) (p q h : ℕ) (row : List Entry) : Type 0 where
  pub rising : IsStrictlyIncreasing (map (λ e. e.pos) row)
  pub fit : All (EntryFits (Joined edges) at h) row
  pub from : All (λ e. p ≤ e.pos) row
  pub hubs : (e : Entry) → IsHubEntry (Joined edges) at h e → p ≤ e.pos → e.pos < q → Contains row e

-- each edge weighs at least 1, and the nodes are ranked; v is one of them, and these are late rows of the hubs at the positions from p on and below c
pub record JoinsUnder (edges : List Edge) (at : List ℕ) (p c : ℕ) (rows : List (List Entry)) (v : ℕ) : Type 0 where
  pub weights : WeighAtLeastOne edges
  pub ranking : IsRanking at
  pub node : IsNode (length at) v
  pub up : p ≤ c
  pub size : length rows ≡ c - p
  pub each : (q h : ℕ) → p ≤ q → q < c → slice_get at q ≡ Some h → IsHubRow edges at p q h (get_or rows (q - p) [])
