-- Where nothing is wrong with its entries, an index is the canonical hub labelling.
use Rattle.std.proofs.Common.{◌≡◌, ℕ, zero, suc, ◌+◌, ◌<◌, ◌≤◌, List, All, Contains, length, map, get_or, slice_get, Some, refl, sym, subst, ◌∙◌, inl, inr, arith}
use Rattle.std.proofs.lemmas.Bool.{cases_lt, cases_eq}
use Rattle.std.proofs.lemmas.List.Elements.{All-contains}
use Rattle.std.proofs.lemmas.List.Kept.{AllPairs-from_increasing}
use Rattle.std.proofs.lemmas.Option.{same_Some, slice_get-get_or, slice_get_within, get_or_from_slice_get}
use Rattle.walk_laws.specs.declared.graph.Edge.{Edge}
use Rattle.walk_laws.specs.declared.entry.Entry.{Entry}
use Rattle.walk_laws.specs.Graph.{IsEdge}
use Rattle.walk_laws.specs.Joined.{Joined}
use Rattle.walk_laws.specs.Walk.{HasWalk}
use Rattle.walk_laws.specs.Least.{IsLeast}
use Rattle.walk_laws.specs.Ranking.{IsRanking, position_of}
use Rattle.walk_laws.specs.Canonical.{IsCanonical}
use Rattle.walk_laws.specs.Cover.{CoveringHub}
use Rattle.walk_laws.specs.Labelling.{label_row, IsHubEntry, IsChl}
use Rattle.walk_laws.proofs.Positions.{position-lt, position-get_or, slice_get-at_position}
use Rattle.walk_laws.proofs.JoinedEdges.{Joined-sym, IsEdge-joined, Joined-positive, weights_of_edges}
use Rattle.walk_laws.proofs.JoinedDecisions.{IsCanonical-or_joined_cover}
use Rattle.walk_laws.proofs.Walks.{HasWalk-none_to, HasWalk-same, HasWalk-arc, HasWalk-after}
use Rattle.walk_laws.proofs.LeastWalks.{IsLeast-predecessor, IsLeast-same, IsLeast-unique, IsLeast-none}
use Rattle.walk_laws.proofs.OnWalks.{IsOn-from_parts}
use Rattle.walk_laws.proofs.CanonicalHubs.{IsCanonical-inherited, IsCanonical-no_cover}
use Rattle.walk_laws.proofs.LabelRows.{Rises}
use Rattle.hub_index.specs.WellFormed.{IsWellFormed}
use Rattle.hub_query.proofs.Sums.{pos_of}
use Rattle.hub_query.proofs.RowFacts.{row_rises, row_ranked, row_positions, row_own}
use Rattle.index_audit.specs.Checks.{MeetAt, IsSoundEntry}
use Rattle.index_audit.proofs.OneEntry.{one_distance}

-- the node at a position has that position
pub place_of : (at : List ℕ) (p x : ℕ) → IsRanking at → slice_get at p ≡ Some x → position_of at x ≡ p
place_of at p x ranking is =
    subst (λ y. position_of at y ≡ p) (get_or_from_slice_get at p x 0 is) (position-get_or at p 0 ranking.once (slice_get_within at p x is))

-- and is one of the nodes
pub node_at : (at : List ℕ) (p x : ℕ) → IsRanking at → slice_get at p ≡ Some x → (1 ≤ x) × (x ≤ length at)
node_at at p x ranking is =
    subst (λ y. (1 ≤ y) × (y ≤ length at)) (get_or_from_slice_get at p x 0 is) (ranking.node p 0 (slice_get_within at p x is))

module _ (edges : List Edge) (at : List ℕ) (edge : All (IsEdge (length at)) edges) (rows : List (List Entry)) (well : IsWellFormed at rows) where
  abbrev J : ℕ → ℕ → ℕ → Type 0
  J = Joined edges

  positive : (x y w : ℕ) → J x y w → 1 ≤ w
  positive = Joined-positive edges (weights_of_edges (length at) edges edge)

  pub rises : (v : ℕ) → 1 ≤ v → v ≤ length at → Rises pos_of (label_row rows v)
  rises v from_one up_to_n = AllPairs-from_increasing (map (λ e. e.pos) (label_row rows v)) (row_rises at rows v well from_one up_to_n)

  module _ (sound_entry : (v : ℕ) (e : Entry) → 1 ≤ v → v ≤ length at → Contains (label_row rows v) e → IsSoundEntry J at rows v e) where
    -- the node's own entry is at distance 0
    own_distance : (v p d : ℕ) → 1 ≤ v → v ≤ length at → Contains (label_row rows v) (record { pos = p; dist = d }) → slice_get at p ≡ Some v → d ≡ 0
    own_distance v p d from_one up_to_n there place =
        let own = subst (λ q. Contains (label_row rows v) (record { pos = q; dist = 0 })) (place_of at p v well.ranking place) (row_own at rows v well from_one up_to_n) in
        one_distance (label_row rows v) p d 0 (rises v from_one up_to_n) there own

    -- each entry is the length of a walk from its hub
    walk_below : (bound h v p d : ℕ) → d < bound → 1 ≤ v → v ≤ length at → Contains (label_row rows v) (record { pos = p; dist = d }) → slice_get at p ≡ Some h → HasWalk J h v d
    walk_below zero h v p d lt from_one up_to_n there place = absurd (omega arith)
    walk_below (suc bound) h v p d lt from_one up_to_n there place =
        let s = sound_entry v (record { pos = p; dist = d }) from_one up_to_n there in
        let same_hub : s.hub ≡ h = same_Some s.hub h (sym s.place ∙ place) in
        elim s.walked [
          | inl same ↦
              let itself : h ≡ v = sym same_hub ∙ same in
              HasWalk-same J h v 0 d (sym (own_distance v p d from_one up_to_n there (subst (λ x. slice_get at p ≡ Some x) itself place))) (HasWalk-none_to J h v itself)
          | inr step ↦
              let y = step.0 in
              let n = step.1 in
              let is = IsEdge-joined (length at) edges v y n.weight edge n.arc in
              let before = walk_below bound h y p n.dist (omega (arith, n.long, is.weight)) is.to_one is.to_n n.there place in
              HasWalk-same J h v (n.dist + n.weight) d n.long (HasWalk-after J h y v n.weight n.dist before (Joined-sym edges v y n.weight n.arc))
        ]

    pub walk_of : (h v p d : ℕ) → 1 ≤ v → v ≤ length at → Contains (label_row rows v) (record { pos = p; dist = d }) → slice_get at p ≡ Some h → HasWalk J h v d
    walk_of h v p d = walk_below (suc d) h v p d (omega arith)

    -- a hub that covers the way on from a canonical entry to a node of which its hub is canonical is that hub
    same_hub : (h v d y a w : ℕ) → IsCanonical J at h v d → 1 ≤ h → h ≤ length at → 1 ≤ v → v ≤ length at → a + w ≡ d → (q : ℕ) → MeetAt (label_row rows h) (label_row rows v) (a + w) q → Contains (label_row rows v) (record { pos = position_of at h; dist = d })
    same_hub h v d y a w canon h_node h_within v_node v_within long q meet =
        let sum = meet.both in
        let within : q < length at = All-contains (λ (e : Entry). e.pos < length at) (label_row rows h) (record { pos = q; dist = sum.before }) (row_positions at rows h well h_node h_within) sum.in_first in
        let ranked : q ≤ position_of at h = All-contains (λ (e : Entry). e.pos ≤ position_of at h) (label_row rows h) (record { pos = q; dist = sum.before }) (row_ranked at rows h well h_node h_within) sum.in_first in
        let x = get_or at q 0 in
        let place : slice_get at q ≡ Some x = slice_get-get_or at q 0 within in
        let to_hub : HasWalk J x h sum.before = walk_of x h q sum.before h_node h_within sum.in_first place in
        let to_node : HasWalk J x v sum.after = walk_of x v q sum.after v_node v_within sum.in_second place in
        elim (cases_lt q (position_of at h)) [
          | inl above ↦ absurd (IsCanonical-no_cover J at (Joined-sym edges) h v x d sum.before sum.after canon (omega (arith, place_of at q x well.ranking place)) to_hub to_node (omega (arith, sum.long, meet.short)))
          | inr level ↦
              let here : q ≡ position_of at h = omega arith in
              let h_place : slice_get at q ≡ Some h = subst (λ p. slice_get at p ≡ Some h) (sym here) (slice_get-at_position at h (omega (arith, here))) in
              let walk : HasWalk J h v sum.after = walk_of h v q sum.after v_node v_within sum.in_second h_place in
              let far : sum.after ≡ d = omega (arith, canon.least.none_shorter sum.after walk, sum.long, meet.short) in
              subst (λ p. Contains (label_row rows v) (record { pos = p; dist = d })) here (subst (λ e. Contains (label_row rows v) (record { pos = q; dist = e })) far sum.in_second)
        ]

    -- each canonical hub of a node is in its row
    canonical_below : (bound h v d : ℕ) → d < bound → 1 ≤ h → h ≤ length at → 1 ≤ v → v ≤ length at → IsCanonical J at h v d → Contains (label_row rows v) (record { pos = position_of at h; dist = d })
    canonical_below zero h v d lt h_node h_within v_node v_within canon = absurd (omega arith)
    canonical_below (suc bound) h v d lt h_node h_within v_node v_within canon = elim (cases_eq v h) [
      | inl same ↦
          let none : 0 ≡ d = IsLeast-unique J h v 0 d (subst (λ x. IsLeast J h x 0) (sym same) (IsLeast-none J h)) canon.least in
          subst (λ e. Contains (label_row rows v) (record { pos = position_of at h; dist = e })) none (subst (λ x. Contains (label_row rows v) (record { pos = position_of at x; dist = 0 })) same (row_own at rows v well v_node v_within))
      | inr other ↦
          let p = IsLeast-predecessor J h v d canon.least other in
          let is = IsEdge-joined (length at) edges p.node v p.weight edge p.arc in
          let on = IsOn-from_parts J h p.node v p.before p.weight p.least.walk (HasWalk-arc J p.node v p.weight p.arc) (IsLeast-same J h v d (p.before + p.weight) (sym p.long) canon.least) in
          let there = canonical_below bound h p.node p.before (omega (arith, p.long, is.weight)) h_node h_within is.from_one is.up_to_n (IsCanonical-inherited J at h p.node v p.before d canon on p.least) in
          let s = sound_entry p.node (record { pos = position_of at h; dist = p.before }) is.from_one is.up_to_n there in
          let hub : s.hub ≡ h = same_Some s.hub h (sym s.place ∙ slice_get-at_position at h (position-lt at h well.ranking h_node h_within)) in
          let cover = s.covered v p.weight p.arc in
          same_hub h v d p.node p.before p.weight canon h_node h_within v_node v_within p.long cover.0
          (subst (λ x. MeetAt (label_row rows x) (label_row rows v) (p.before + p.weight) cover.0) hub cover.1)
    ]

    pub canonical_there : (h v d : ℕ) → 1 ≤ h → h ≤ length at → 1 ≤ v → v ≤ length at → IsCanonical J at h v d → Contains (label_row rows v) (record { pos = position_of at h; dist = d })
    canonical_there h v d = canonical_below (suc d) h v d (omega arith)

    module _ (v : ℕ) (from_one : 1 ≤ v) (up_to_n : v ≤ length at) where
      no_cover : (e : Entry) → (s : IsSoundEntry J at rows v e) → CoveringHub J at s.hub v e.dist → ⊥
      no_cover e s c =
          let hub = node_at at e.pos s.hub well.ranking s.place in
          let ranked : position_of at c.hub < length at = omega (arith, c.above, position-lt at s.hub well.ranking hub.0 hub.1) in
          let cover = node_at at (position_of at c.hub) c.hub well.ranking (slice_get-at_position at c.hub ranked) in
          s.needed (position_of at c.hub) (record {
            above = omega (arith, c.above, place_of at e.pos s.hub well.ranking s.place);
            meet = record {
              sum = c.before + c.after;
              both = record { before = c.before; after = c.after; in_first = canonical_there c.hub s.hub c.before cover.0 cover.1 hub.0 hub.1 c.to_start; in_second = canonical_there c.hub v c.after cover.0 cover.1 from_one up_to_n c.to_end; long = refl };
              short = c.short;
            };
          })

      -- each entry of its row is that of a canonical hub
      hub_entry : (e : Entry) → Contains (label_row rows v) e → IsHubEntry J at v e
      hub_entry e there =
          let s = sound_entry v e from_one up_to_n there in
          let hub = node_at at e.pos s.hub well.ranking s.place in
          let place = place_of at e.pos s.hub well.ranking s.place in
          let walk = walk_of s.hub v e.pos e.dist from_one up_to_n there s.place in
          elim (IsCanonical-or_joined_cover edges (weights_of_edges (length at) edges edge) at well.ranking s.hub v e.dist hub.0 hub.1 walk) [
            | inr cover ↦ absurd (no_cover e s cover)
            | inl canon ↦
                let other = subst (λ p. Contains (label_row rows v) (record { pos = p; dist = canon.0 })) place (canonical_there s.hub v canon.0 hub.0 hub.1 from_one up_to_n canon.2) in
                let same : canon.0 ≡ e.dist = one_distance (label_row rows v) e.pos canon.0 e.dist (rises v from_one up_to_n) other there in
                (s.hub, s.place, subst (IsCanonical J at s.hub v) same canon.2)
          ]

      canonical_entry : (e : Entry) → IsHubEntry J at v e → Contains (label_row rows v) e
      canonical_entry e is =
          let hub = node_at at e.pos is.0 well.ranking is.1 in
          subst (λ p. Contains (label_row rows v) (record { pos = p; dist = e.dist })) (place_of at e.pos is.0 well.ranking is.1) (canonical_there is.0 v e.dist hub.0 hub.1 from_one up_to_n is.2)

    pub sound_is_chl : IsChl J at rows
    sound_is_chl = record {
      size = well.size;
      row = λ v from_one up_to_n. record { rising = row_rises at rows v well from_one up_to_n; each = λ e. (hub_entry v from_one up_to_n e, canonical_entry v from_one up_to_n e) };
    }
