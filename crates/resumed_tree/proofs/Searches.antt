-- How far a tree that is gone on with has come with its nodes.
use Rattle.std.proofs.Common.{◌≡◌, ◌⊎◌, inl, inr, ℕ, ◌+◌, ◌≤◌, List, All, Contains, sym, subst, ◌∙◌, arith}
use Rattle.std.specs.Prelude.{Some, slice_get}
use Rattle.std.proofs.lemmas.List.Elements.{All-contains}
use Rattle.walk_laws.specs.declared.graph.Arc.{Arc}
use Rattle.walk_laws.specs.Ranking.{position_of}
use Rattle.walk_laws.specs.Walk.{HasWalk}
use Rattle.walk_laws.proofs.Walks.{HasWalk-after, HasWalk-same}
use Rattle.frontier.specs.declared.reach.Found.{Found}
use Rattle.frontier.specs.declared.reach.Reach.{Reach}
use Rattle.frontier.specs.declared.reach.Reach.TheVariants.{Queued}
use Rattle.frontier.specs.Reaches.{reach_at, settled}
use Rattle.pruned_tree.specs.declared.bare.Bare.{Bare}
use Rattle.pruned_tree.specs.Relaxed.{HasDistance, IsSettledAt, Along, IsRelaxed}
use Rattle.pruned_tree.proofs.OfferedNodes.{queued_or_settled, queued_distance, not_settled, settle_was, settle_is, settle_new, settle_keeps}
use Rattle.resumed_tree.specs.declared.resuming.Start.{Start}
use Rattle.resumed_tree.specs.Offered.{HasStarts}
use Rattle.resumed_tree.specs.Resumed.{IsStart}

-- each node that is reached has a walk of its distance, and doesn't rank above the root; no settled one is farther than one that isn't; and each start is as near as it was said to be
pub record IsSearch (J : ℕ → ℕ → ℕ → Type 0) (at : List ℕ) (h p : ℕ) (starts : List Start) (nodes : List (Reach Bare)) : Type 0 where
  pub from_one : (x d : ℕ) → HasDistance (reach_at nodes x) d → 1 ≤ x
  pub walk : (x d : ℕ) → HasDistance (reach_at nodes x) d → HasWalk J h x d
  pub ranked : (x d : ℕ) → HasDistance (reach_at nodes x) d → p ≤ position_of at x
  pub rising : (x d y e : ℕ) → IsSettledAt (reach_at nodes x) d → HasDistance (reach_at nodes y) e → IsSettledAt (reach_at nodes y) e ⊎ (d ≤ e)
  pub begun : (s : Start) → Contains starts s → (e : ℕ) × HasDistance (reach_at nodes s.node) e × (e ≤ s.dist)

module _ (J : ℕ → ℕ → ℕ → Type 0) (at : List ℕ) (h p : ℕ) (starts : List Start) where
  -- at first just the starts are queued
  IsStart-walk : (root : slice_get at p ≡ Some h) → All (IsStart J at p) starts → (s : Start) → Contains starts s → HasWalk J h s.node s.dist
  IsStart-walk root may s there =
      let start = All-contains (IsStart J at p) starts s may there in
      let both : Some start.fits.walk.0 ≡ Some h = sym start.fits.walk.1 ∙ root in
      let same : start.fits.walk.0 ≡ h = cc in
      subst (λ x. HasWalk J x s.node s.dist) same start.fits.walk.2

  pub IsSearch-start : (k : ℕ) (nodes : List (Reach Bare)) → HasStarts k starts nodes → slice_get at p ≡ Some h → All (IsStart J at p) starts → All (λ s. 1 ≤ s.node) starts → IsSearch J at h p starts nodes
  IsSearch-start k nodes has root may nodes_of = record {
    from_one = λ x d there. let s = has.came x d there in subst (λ y. 1 ≤ y) s.2 (All-contains (λ s. 1 ≤ s.node) starts s.0 nodes_of s.1);
    walk = λ x d there. let s = has.came x d there in subst (λ y. HasWalk J h y d) s.2 (HasWalk-same J h s.0.node s.0.dist d s.3 (IsStart-walk root may s.0 s.1));
    ranked = λ x d there. let s = has.came x d there in subst (λ y. p ≤ position_of at y) s.2 (All-contains (IsStart J at p) starts s.0 may s.1).fits.ranked;
    rising = λ x d y e done. absurd (has.waits x d done);
    begun = has.near;
  }

  -- the nearest queued node is settled
  module _ (nodes : List (Reach Bare)) (search : IsSearch J at h p starts nodes) (v : ℕ) (f : Found Bare) (queued : reach_at nodes v ≡ Queued f) (nearest : (x : ℕ) (g : Found Bare) → reach_at nodes x ≡ Queued g → f.dist ≤ g.dist) where
    there : HasDistance (reach_at nodes v) f.dist
    there = queued_distance (reach_at nodes v) f queued

    -- no settled node is farther
    pub settled_near : (x d : ℕ) → IsSettledAt (reach_at (settled nodes v f) x) d → d ≤ f.dist
    settled_near x d done = elim (settle_new nodes v f queued x d done) [
      | inl old ↦ elim (search.rising x d v f.dist old.1 there) [
        | inl too_early ↦ absurd (not_settled (reach_at nodes v) f f.dist queued too_early)
        | inr near ↦ near
      ]
      | inr new ↦ omega (arith, new.1)
    ]

    pub IsSearch-settled : IsSearch J at h p starts (settled nodes v f)
    IsSearch-settled = record {
      from_one = λ x d reached. search.from_one x d (settle_was nodes v f queued x d reached);
      walk = λ x d reached. search.walk x d (settle_was nodes v f queued x d reached);
      ranked = λ x d reached. search.ranked x d (settle_was nodes v f queued x d reached);
      rising = λ x d y e done reached. elim (queued_or_settled (reach_at nodes y) e (settle_was nodes v f queued y e reached)) [
        | inl early ↦ inl (settle_keeps nodes v f queued y e early)
        | inr waits ↦ inr (omega (arith, settled_near x d done, nearest y waits.0 waits.1, waits.2))
      ];
      begun = λ s there. let was = search.begun s there in (was.0, settle_is nodes v f queued s.node was.0 was.1, was.2);
    }

    -- and its arcs are gone along
    module _ (count : ℕ) (row : List Arc) (arcs : (k : ℕ) (a : Arc) → slice_get row k ≡ Some a → J v a.to a.w) (ends : (x y w : ℕ) → J x y w → (1 ≤ x) × (1 ≤ y)) (after : List (Reach Bare)) (relaxed : IsRelaxed at p f.dist count row (settled nodes v f) after) where
      arc_along : (x e : ℕ) → (way : Along row f.dist x e) → J v x way.arc.w
      arc_along x e way = subst (λ y. J v y way.arc.w) way.leads (arcs way.place way.arc way.there)

      pub IsSearch-relaxed : IsSearch J at h p starts after
      IsSearch-relaxed = record {
        from_one = λ x e reached. elim (relaxed.came x e reached) [
          | inl old ↦ IsSearch-settled.from_one x e old
          | inr new ↦ (ends v x new.0.arc.w (arc_along x e new.0)).1
        ];
        walk = λ x e reached. elim (relaxed.came x e reached) [
          | inl old ↦ IsSearch-settled.walk x e old
          | inr new ↦ HasWalk-same J h x (f.dist + new.0.arc.w) e new.0.long (HasWalk-after J h v x new.0.arc.w f.dist (search.walk v f.dist there) (arc_along x e new.0))
        ];
        ranked = λ x e reached. elim (relaxed.came x e reached) [ inl old ↦ IsSearch-settled.ranked x e old | inr new ↦ new.1 ];
        rising = λ x d y e done reached.
            let done_before = (relaxed.settled x d).0 done in
            elim (relaxed.came y e reached) [
              | inl old ↦ elim (IsSearch-settled.rising x d y e done_before old) [
                | inl early ↦ inl ((relaxed.settled y e).1 early)
                | inr near ↦ inr near
              ]
              | inr new ↦ inr (omega (arith, settled_near x d done_before, new.0.long))
            ];
        begun = λ s there.
            let was = search.begun s there in
            let still = relaxed.kept s.node was.0 (settle_is nodes v f queued s.node was.0 was.1) in
            (still.0, still.1, omega (arith, still.2, was.2));
      }
