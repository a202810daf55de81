-- What a pruned tree puts in the rows of nodes (pruned landmark labelling, SIGMOD 2013; Planting Trees, PVLDB 2019).
use Rattle.std.specs.Prelude.{◌≡◌, ◌⊎◌, ℕ, ◌+◌, ◌<◌, ◌≤◌, List, [], ◌∷◌, ◌++◌, Contains, length, sum_by, slice_get, Some, Result, IfOk}
use Rattle.std.specs.declared.alloc.AllocError.{AllocError}
use Rattle.walk_laws.specs.declared.entry.Entry.{Entry}
use Rattle.walk_laws.specs.declared.graph.Edge.{Edge}
use Rattle.walk_laws.specs.Canonical.{IsCanonical}
use Rattle.walk_laws.specs.Joined.{Joined}
use Rattle.walk_laws.specs.Labelling.{EntryFits, IsHubEntry}
use Rattle.walk_laws.specs.Meet.{HasSum}

-- the entries of the node v are those of before, with one at the position p and the distance d after them
abbrev pub Gains : (ℕ → List Entry) → (ℕ → List Entry) → ℕ → ℕ → ℕ → Type 0
Gains before after p v d = after v ≡ before v ++ record { pos = p; dist = d } ∷ []

-- a node that gained an entry, and from which an arc leads to v that makes the distance d of it
pub record ExtendsOne (J : ℕ → ℕ → ℕ → Type 0) (before after : ℕ → List Entry) (p v d : ℕ) : Type 0 where
  pub node : ℕ
  pub weight : ℕ
  pub dist : ℕ
  pub arc : J node v weight
  pub gained : Gains before after p node dist
  pub long : dist + weight ≡ d

-- what the tree of the node at the position p puts: at most one entry for each node, which may stand in its row; one at a distance above 0 extends that of a neighbour
pub record IsPruned (J : ℕ → ℕ → ℕ → Type 0) (at : List ℕ) (before after : ℕ → List Entry) (p : ℕ) : Type 0 where
  pub one : (v : ℕ) → 1 ≤ v → (after v ≡ before v) ⊎ ((d : ℕ) × Gains before after p v d)
  pub fits : (v d : ℕ) → 1 ≤ v → Gains before after p v d → EntryFits J at v (record { pos = p; dist = d })
  pub extends : (v d : ℕ) → 1 ≤ v → Gains before after p v d → 0 < d → ExtendsOne J before after p v d

-- the rows have each hub that ranks above the one at the position p
abbrev pub HoldsHigher : (ℕ → ℕ → ℕ → Type 0) → List ℕ → ℕ → (ℕ → List Entry) → Type 0
HoldsHigher J at p rows = (v : ℕ) (e : Entry) → 1 ≤ v → e.pos < p → IsHubEntry J at v e → Contains (rows v) e

-- how many entries the nodes have
abbrev pub entries_of : List ℕ → (ℕ → List Entry) → ℕ
entries_of nodes rows = sum_by (λ v. length (rows v)) nodes

-- What the tree of the node at the position p leaves of entries put before, where these lists were seen before: it is pruned, and where it is whole it counts what it put, each node that has the root for a hub got it, and no other node did where each hub that ranks above the root was seen; and whole or not, each hub above the root that the root and a node were seen to share makes a longer way than what was put at the node
pub record IsGrown (edges : List Edge) (at : List ℕ) (p : ℕ) (seen before after : ℕ → List Entry) (result : Result ℕ AllocError) : Type 0 where
  pub pruned : IsPruned (Joined edges) at before after p
  pub count : IfOk result (λ count. entries_of at after ≡ entries_of at before + count)
  pub complete : IfOk result (λ _. (h v d : ℕ) → slice_get at p ≡ Some h → IsCanonical (Joined edges) at h v d → Gains before after p v d)
  pub exact : IfOk result (λ _. HoldsHigher (Joined edges) at p seen → (h v d : ℕ) → slice_get at p ≡ Some h → 1 ≤ v → Gains before after p v d → IsCanonical (Joined edges) at h v d)
  pub apart : (h v d q s : ℕ) → slice_get at p ≡ Some h → 1 ≤ v → Gains before after p v d → HasSum (seen h) (seen v) q s → q < p → d < s
