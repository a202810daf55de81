-- A round of a pruned tree: the nearest queued node is settled and offered the root's entry, and where that is put its arcs are gone along.
use Rattle.std.proofs.Common.{◌≡◌, ◌≢◌, ◌↔◌, inl, inr, ℕ, ◌+◌, ◌<◌, ◌≤◌, Option, List, [], ◌∷◌, ◌++◌, Contains, length, replicate, refl, sym, ap, subst, ◌∙◌, arith}
use Rattle.std.specs.Prelude.{Some, slice_get}
use Rattle.std.proofs.lemmas.Bool.{cases_eq}
use Rattle.std.proofs.lemmas.Option.{slice_get_within, get_or_from_slice_get}
use Rattle.walk_laws.specs.declared.entry.Entry.{Entry}
use Rattle.walk_laws.specs.declared.graph.Arc.{Arc}
use Rattle.walk_laws.specs.declared.graph.Edge.{Edge}
use Rattle.walk_laws.specs.Canonical.{IsCanonical}
use Rattle.walk_laws.specs.Graph.{IsGraph}
use Rattle.walk_laws.specs.Joined.{Joined}
use Rattle.walk_laws.specs.Labelling.{EntryFits}
use Rattle.walk_laws.specs.Ranking.{IsRanking, position_of}
use Rattle.walk_laws.specs.Walk.{HasWalk}
use Rattle.walk_laws.proofs.JoinedDecisions.{IsCanonical-or_joined_cover}
use Rattle.walk_laws.proofs.JoinedEdges.{IsEdge-joined, Joined-positive, Joined-sym, weights_of_edges}
use Rattle.walk_laws.proofs.Positions.{position-get_or}
use Rattle.walk_laws.proofs.Walks.{HasWalk-none_to}
use Rattle.frontier.specs.declared.reach.Found.{Found}
use Rattle.frontier.specs.declared.reach.Reach.{Reach}
use Rattle.frontier.specs.declared.reach.Reach.TheVariants.{Unreached, Queued}
use Rattle.frontier.specs.Reaches.{reach_at, settled}
use Rattle.hub_index.specs.RootDistances.{IsCover}
use Rattle.hub_index.specs.Views.{IsFound, StandsIn}
use Rattle.hub_index.proofs.FoundRows.{StandsIn-still}
use Rattle.pruned_tree.specs.declared.bare.Bare.{Bare}
use Rattle.pruned_tree.specs.Grown.{Gains, HoldsHigher}
use Rattle.pruned_tree.specs.Loaded.{IsRootTable}
use Rattle.pruned_tree.specs.Relaxed.{HasDistance, IsRelaxed}
use Rattle.pruned_tree.proofs.CompleteTrees.{IsComplete, next_is_least, IsComplete-over, IsComplete-put}
use Rattle.pruned_tree.proofs.CoveredRoots.{no_cover, cover_found}
use Rattle.pruned_tree.proofs.GrownRows.{IsGrowth, not_gained, queued_gains_none, IsGrowth-settled, IsGrowth-same, IsGrowth-put, IsGrowth-relaxed, put_gains}
use Rattle.pruned_tree.proofs.OfferedNodes.{queued_distance, settle_here}
use Rattle.pruned_tree.proofs.StartedTrees.{started_at, only_start, none_settled, start_reached}

-- the position of the node at a place is that place
pub root_position : (at : List ℕ) (h p : ℕ) → IsRanking at → slice_get at p ≡ Some h → position_of at h ≡ p
root_position at h p ranking root =
    let within = slice_get_within at p h root in
    ap (position_of at) (sym (get_or_from_slice_get at p h 0 root)) ∙ position-get_or at p 0 ranking.once within

pub root_node : (at : List ℕ) (h p : ℕ) → IsRanking at → slice_get at p ≡ Some h → (1 ≤ h) × (h ≤ length at)
root_node at h p ranking root =
    let within = slice_get_within at p h root in
    subst (λ x. (1 ≤ x) × (x ≤ length at)) (get_or_from_slice_get at p h 0 root) (ranking.node p 0 within)

-- what was seen of the rows at first still stands
abbrev pub StillStand : (ℕ → List Entry) → (ℕ → List Entry) → Type 0
StillStand rows seen = (x : ℕ) (e : Entry) → 1 ≤ x → Contains (rows x) e → Contains (seen x) e

-- after the row of a node was found, and perhaps gained an entry
pub StillStand-found : (rows seen now : ℕ → List Entry) (v : ℕ) (row : List Entry) → StillStand rows seen → StandsIn (seen v) row → ((e : Entry) → Contains row e → Contains (now v) e) → ((x : ℕ) → 1 ≤ x → x ≢ v → now x ≡ seen x) → StillStand rows now
StillStand-found rows seen now v row stand still has same x e from_one there = elim (cases_eq x v) [
  | inl here ↦
      let was : Contains (seen v) e = subst (λ z. Contains (seen z) e) here (stand x e from_one there) in
      subst (λ z. Contains (now z) e) (sym here) (has e (StandsIn-still (seen v) row e still was))
  | inr other ↦ subst (λ xs. Contains xs e) (sym (same x from_one other)) (stand x e from_one there)
]

-- an entry may stand in a row whichever way the edges and the ranking are told
pub fits_by : (edges others : List Edge) (at order : List ℕ) (v : ℕ) (e : Entry) → edges ≡ others → at ≡ order → EntryFits (Joined edges) at v e → EntryFits (Joined others) order v e
fits_by edges others at order v e same_edges same_order fits = subst (λ es. EntryFits (Joined es) order v e) same_edges (subst (λ xs. EntryFits (Joined edges) xs v e) same_order fits)

module _ (n : ℕ) (edges : List Edge) (at : List ℕ) (h p : ℕ) (graph : IsGraph n edges) (size : length at ≡ n) (ranking : IsRanking at) (root : slice_get at p ≡ Some h) (before rows : ℕ → List Entry) where
  positive : (x y w : ℕ) → Joined edges x y w → 1 ≤ w
  positive = Joined-positive edges (weights_of_edges n edges graph.edge)

  ends : (x y w : ℕ) → Joined edges x y w → (1 ≤ x) × (1 ≤ y)
  ends x y w joined = let edge = IsEdge-joined n edges x y w graph.edge joined in (edge.from_one, edge.to_one)

  -- at first the root alone is queued, at distance 0
  module _ (nodes : List (Reach Bare)) (now : nodes ≡ started_at (n + 1) h 0) (inside : h < length (replicate {A = Reach Bare} (n + 1) Unreached)) where
    pub IsGrowth-start : IsGrowth (Joined edges) at h p before nodes before
    IsGrowth-start = record {
      one = λ x from_one. inl refl;
      from_one = λ x d there. let is = only_start (n + 1) h 0 nodes now inside x d there in omega (arith, is.0, (root_node at h p ranking root).0);
      walk = λ x d there.
          let is = only_start (n + 1) h 0 nodes now inside x d there in
          subst (HasWalk (Joined edges) h x) (sym is.1) (HasWalk-none_to (Joined edges) h x (sym is.0));
      ranked = λ x d there. let is = only_start (n + 1) h 0 nodes now inside x d there in let place = ap (position_of at) is.0 ∙ root_position at h p ranking root in omega (arith, place);
      way = λ x d there far. absurd (omega (arith, (only_start (n + 1) h 0 nodes now inside x d there).1, far));
    }

    pub IsComplete-start : IsComplete (Joined edges) at h p before rows nodes before
    IsComplete-start = record {
      root = start_reached (n + 1) h 0 nodes now inside;
      relaxed = λ y d done. absurd (none_settled (n + 1) h 0 nodes now inside y d done);
      canonical = λ x d c done. absurd (none_settled (n + 1) h 0 nodes now inside x d done);
      exact = λ x d from_one gained. absurd (not_gained (Joined edges) at h p before before x d refl gained);
    }

  module _ (nodes : List (Reach Bare)) (puts seen : ℕ → List Entry) (table : List (Option ℕ)) (loaded : IsRootTable (Joined edges) at h (rows h) table) (growth : IsGrowth (Joined edges) at h p before nodes puts) (complete : IsComplete (Joined edges) at h p before rows nodes puts) (stand : StillStand rows seen) (v : ℕ) (f : Found Bare) (queued : reach_at nodes v ≡ Queued f) (nearest : (x : ℕ) (g : Found Bare) → reach_at nodes x ≡ Queued g → f.dist ≤ g.dist) where
    there : HasDistance (reach_at nodes v) f.dist
    there = queued_distance (reach_at nodes v) f queued

    -- the entry that is offered may stand in the row of the node
    pub offer_fits : EntryFits (Joined edges) at v (record { pos = p; dist = f.dist })
    offer_fits = record { ranked = growth.ranked v f.dist there; walk = (h, root, growth.walk v f.dist there) }

    least_next : (c : ℕ) → IsCanonical (Joined edges) at h v c → f.dist ≡ c
    least_next = next_is_least (Joined edges) positive at h p (root_position at h p ranking root) before rows nodes puts complete growth v f queued nearest

    -- it has gained none so far
    pub none_yet : puts v ≡ before v
    none_yet = queued_gains_none (Joined edges) at h p before nodes puts growth v f (growth.from_one v f.dist there) queued

    module _ (row : List Entry) (found : IsFound (EntryFits (Joined edges) at v) (seen v) row) (others : ℕ → List Entry) where
      -- where an entry of the row covers it, the root is no hub of the node
      no_hub : (e : Entry) → Contains row e → IsCover table p f.dist e → (c : ℕ) → IsCanonical (Joined edges) at h v c → ⊥
      no_hub e stands cover c hub =
          no_cover (Joined edges) at h p ranking root (root_position at h p ranking root) table (rows h) loaded.held (Joined-sym edges) loaded.fit v c row e found.met hub stands (subst (λ d. IsCover table p d e) (least_next c hub) cover)

      -- where none does, and all higher hubs are there, it is
      hub_here : ((e : Entry) → Contains row e → ¬ IsCover table p f.dist e) → HoldsHigher (Joined edges) at p rows → IsCanonical (Joined edges) at h v f.dist
      hub_here uncovered higher =
          let node = root_node at h p ranking root in
          let v_from_one = growth.from_one v f.dist there in
          elim (IsCanonical-or_joined_cover edges (weights_of_edges n edges graph.edge) at ranking h v f.dist node.0 node.1 (growth.walk v f.dist there)) [
            | inl hub ↦ subst (IsCanonical (Joined edges) at h v) (sym (least_next hub.0 hub.2)) hub.2
            | inr cover ↦
                let at_hub = cover_found (Joined edges) at h p ranking root (root_position at h p ranking root) table (rows h) loaded.held rows higher node.0 (λ e here. here) v f.dist row v_from_one
                (λ e here. StandsIn-still (seen v) row e found.still (stand v e v_from_one here)) cover in
                absurd (uncovered at_hub.0 at_hub.1 at_hub.2)
          ]

      -- nothing is put
      pub IsGrowth-round_over : ((x : ℕ) → 1 ≤ x → others x ≡ puts x) → IsGrowth (Joined edges) at h p before (settled nodes v f) others
      IsGrowth-round_over same =
          IsGrowth-same (Joined edges) at h p before (settled nodes v f) puts (IsGrowth-settled (Joined edges) at h p before nodes puts growth v f queued) ends others same

      pub IsComplete-round_over : (e : Entry) → Contains row e → IsCover table p f.dist e → ((x : ℕ) → 1 ≤ x → others x ≡ puts x) → IsComplete (Joined edges) at h p before rows (settled nodes v f) others
      IsComplete-round_over e stands cover same =
          IsComplete-over (Joined edges) positive at h p (root_position at h p ranking root) before rows nodes puts complete growth v f queued nearest none_yet (no_hub e stands cover) others same

      -- the entry is put
      module _ (put : others v ≡ puts v ++ record { pos = p; dist = f.dist } ∷ []) (same : (x : ℕ) → 1 ≤ x → x ≢ v → others x ≡ puts x) where
        pub IsGrowth-round_put : IsGrowth (Joined edges) at h p before (settled nodes v f) others
        IsGrowth-round_put =
            IsGrowth-put (Joined edges) at h p before (settled nodes v f) puts (IsGrowth-settled (Joined edges) at h p before nodes puts growth v f queued) ends v f.dist (growth.from_one v f.dist there) (settle_here nodes v f queued) none_yet others put same

        gained_here : Gains before others p v f.dist
        gained_here =
            put_gains (Joined edges) at h p before (settled nodes v f) puts (IsGrowth-settled (Joined edges) at h p before nodes puts growth v f queued) ends v f.dist (growth.from_one v f.dist there) (settle_here nodes v f queued) none_yet others put same

        module _ (arcs : List Arc) (joined : (t w : ℕ) → Contains arcs (record { to = t; w = w }) ↔ Joined edges v t w) (after : List (Reach Bare)) (relaxed : IsRelaxed at p f.dist (length arcs) arcs (settled nodes v f) after) where
          pub IsGrowth-round : IsGrowth (Joined edges) at h p before after others
          IsGrowth-round =
              IsGrowth-relaxed (Joined edges) at h p before (settled nodes v f) others IsGrowth-round_put ends v f.dist (length arcs) arcs (settle_here nodes v f queued) gained_here
              (λ k a is. (joined a.to a.w).0 (k, slice_get_within arcs k a is, get_or_from_slice_get arcs k a a is)) after relaxed

          pub IsComplete-round : ((e : Entry) → Contains row e → ¬ IsCover table p f.dist e) → IsComplete (Joined edges) at h p before rows after others
          IsComplete-round uncovered =
              IsComplete-put (Joined edges) positive at h p (root_position at h p ranking root) before rows nodes puts complete growth v f queued nearest (growth.from_one v f.dist there) none_yet others put same (hub_here uncovered) arcs
              (λ x w arc. (joined x w).1 arc) after relaxed

-- a node and all others keep what they have
pub same_at_all : (puts now : ℕ → List Entry) (v : ℕ) → now v ≡ puts v → ((x : ℕ) → 1 ≤ x → x ≢ v → now x ≡ puts x) → (x : ℕ) → 1 ≤ x → now x ≡ puts x
same_at_all puts now v here others x from_one = elim (cases_eq x v) [
  | inl is ↦ ap now is ∙ here ∙ ap puts (sym is)
  | inr other ↦ others x from_one other
]

pub weights_positive : (n : ℕ) (edges : List Edge) → IsGraph n edges → (x y w : ℕ) → Joined edges x y w → 1 ≤ w
weights_positive n edges graph = Joined-positive edges (weights_of_edges n edges graph.edge)
