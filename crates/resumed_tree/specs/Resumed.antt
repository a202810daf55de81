-- What a tree that is gone on with leaves of the rows of nodes (dynamic pruned landmark labelling, WWW 2014).
use Rattle.std.specs.Prelude.{◌≡◌, ◌≢◌, ◌↔◌, ℕ, ◌+◌, ◌^◌, ◌<◌, ◌≤◌, List, All, Contains, length, map, slice_get, Some, Result, IfOk}
use Rattle.std.specs.List.Sorted.{IsStrictlyIncreasing}
use Rattle.std.specs.declared.alloc.AllocError.{AllocError}
use Rattle.walk_laws.specs.declared.entry.Entry.{Entry}
use Rattle.walk_laws.specs.declared.graph.Edge.{Edge}
use Rattle.walk_laws.specs.Canonical.{IsCanonical}
use Rattle.walk_laws.specs.Joined.{Joined}
use Rattle.walk_laws.specs.Labelling.{EntryFits, label_row}
use Rattle.walk_laws.specs.Meet.{HasSum}
use Rattle.resumed_tree.specs.declared.resuming.Start.{Start}

-- rows whose entries are the lengths of walks to hubs ranked no lower, by rising position
pub record AreWalks (J : ℕ → ℕ → ℕ → Type 0) (at : List ℕ) (rows : List (List Entry)) : Type 0 where
  pub size : length rows ≡ length at
  pub fit : (v : ℕ) → 1 ≤ v → v ≤ length at → All (EntryFits J at v) (label_row rows v)
  pub rising : (v : ℕ) → 1 ≤ v → v ≤ length at → IsStrictlyIncreasing (map (λ e. e.pos) (label_row rows v))

-- the row of v has the entry of the hub at the position p, at the distance d
abbrev pub Has : List (List Entry) → ℕ → ℕ → ℕ → Type 0
Has rows v p d = Contains (label_row rows v) (record { pos = p; dist = d })

-- it has it now, and hadn't before
abbrev pub CameToHave : List (List Entry) → List (List Entry) → ℕ → ℕ → ℕ → Type 0
CameToHave before after v p d = Has after v p d × ¬ Has before v p d

-- the tree of the hub at the position p may go on there: the hub ranks no lower than the node, and a walk leads there, whose length is below 2 ^ 94
pub record IsStart (J : ℕ → ℕ → ℕ → Type 0) (at : List ℕ) (p : ℕ) (s : Start) : Type 0 where
  pub hub : s.hub ≡ p
  pub fits : EntryFits J at s.node (record { pos = p; dist = s.dist })
  pub near : s.dist < 2 ^ 94

-- What the tree of the node at the position p, gone on with at the starts, leaves of the rows: they are lengths of walks; entries of other hubs stay, none of its own is lost or grows, and one that came is shorter than each way by a hub above; and where the tree is whole, each start has its entry where it is canonical, and so has each neighbour of a node whose canonical entry came
pub record IsResumed (edges : List Edge) (at : List ℕ) (p : ℕ) (starts : List Start) (before after : List (List Entry)) (result : Result (Unit {0}) AllocError) : Type 0 where
  pub walks : AreWalks (Joined edges) at after
  pub others : (v q d : ℕ) → 1 ≤ v → q ≢ p → Has after v q d ↔ Has before v q d
  pub lessens : (v d : ℕ) → 1 ≤ v → Has before v p d → (c : ℕ) × Has after v p c × (c ≤ d)
  pub apart : (h v d q s : ℕ) → slice_get at p ≡ Some h → 1 ≤ v → CameToHave before after v p d → HasSum (label_row before h) (label_row before v) q s → q < p → d < s
  pub reached : IfOk result (λ _. (h : ℕ) (s : Start) → slice_get at p ≡ Some h → Contains starts s → IsCanonical (Joined edges) at h s.node s.dist → Has after s.node p s.dist)
  pub closed : IfOk result (λ _. (h v d u w : ℕ) → slice_get at p ≡ Some h → IsCanonical (Joined edges) at h v d → CameToHave before after v p d → Joined edges v u w → IsCanonical (Joined edges) at h u (d + w) → Has after u p (d + w))
