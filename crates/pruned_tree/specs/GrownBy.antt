-- What the trees of some roots leave in the row of a node (Planting Trees, PVLDB 2019).
use Rattle.std.specs.Prelude.{◌≡◌, ◌++◌, ℕ, List, All, Contains, length, map, nat_eq}
use Rattle.std.specs.List.{IsDistinct}
use Rattle.walk_laws.specs.declared.graph.Edge.{Edge}
use Rattle.walk_laws.specs.declared.entry.Entry.{Entry}
use Rattle.walk_laws.specs.Joined.{Joined}
use Rattle.walk_laws.specs.Labelling.{EntryFits, IsHubEntry}
use Rattle.hub_index.specs.Views.{IsNode}

-- The entries that the trees of these roots, which are positions, put at the node v, after those that were put there before: such as may stand in its row, at most one for each root, and none for another; and where the trees are whole, each root that is a hub of v
pub record IsGrownBy (edges : List Edge) (at roots : List ℕ) (whole : Type 0) (v : ℕ) (before after : List Entry) : Type 0 where
  pub puts : List Entry
  pub joined : after ≡ before ++ puts
  pub fit : All (EntryFits (Joined edges) at v) puts
  pub once : IsDistinct nat_eq (map (λ e. e.pos) puts)
  pub of_roots : All (λ e. Contains roots e.pos) puts
  pub hubs : whole → (e : Entry) → IsHubEntry (Joined edges) at v e → Contains roots e.pos → Contains puts e

-- Some roots were claimed after those before, and their trees grown: at each node stands what these put after what was put there before
abbrev pub HasGrown : List Edge → List ℕ → Type 0 → List ℕ → List ℕ → (ℕ → List Entry) → (ℕ → List Entry) → Type 0
HasGrown edges at whole got now before after = (roots : List ℕ) × (now ≡ got ++ roots) × ((v : ℕ) → IsNode (length at) v → IsGrownBy edges at roots whole v (before v) (after v))
