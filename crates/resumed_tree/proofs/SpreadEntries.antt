-- Canonical entries spread: a settled node of which the root is a hub at that distance has its entry, and what came to have one offers its neighbours theirs.
use Rattle.std.proofs.Common.{◌≡◌, ◌≢◌, ◌⊎◌, inl, inr, ℕ, ◌+◌, ◌≤◌, Option, List, All, Contains, length, sym, ap, subst, ◌∙◌, arith}
use Rattle.std.specs.Prelude.{Some, slice_get}
use Rattle.std.proofs.lemmas.Bool.{cases_eq, cases_lt}
use Rattle.std.proofs.lemmas.List.Elements.{All-contains}
use Rattle.std.proofs.lemmas.Option.{slice_get-get_or}
use Rattle.walk_laws.specs.declared.entry.Entry.{Entry}
use Rattle.walk_laws.specs.declared.graph.Arc.{Arc}
use Rattle.walk_laws.specs.Canonical.{IsCanonical}
use Rattle.walk_laws.specs.Labelling.{EntryFits, label_row}
use Rattle.walk_laws.specs.Ranking.{IsRanking, position_of}
use Rattle.walk_laws.specs.Walk.{HasWalk}
use Rattle.walk_laws.proofs.CanonicalHubs.{IsCanonical-ranked}
use Rattle.frontier.specs.declared.reach.Found.{Found}
use Rattle.frontier.specs.declared.reach.Reach.{Reach}
use Rattle.frontier.specs.declared.reach.Reach.TheVariants.{Queued}
use Rattle.frontier.specs.Reaches.{reach_at, settled}
use Rattle.hub_index.specs.RootDistances.{HoldsRow}
use Rattle.pruned_tree.specs.declared.bare.Bare.{Bare}
use Rattle.pruned_tree.specs.Relaxed.{HasDistance, IsSettledAt, IsRelaxed}
use Rattle.pruned_tree.proofs.CoveredRoots.{no_cover}
use Rattle.pruned_tree.proofs.OfferedNodes.{has_distance, queued_or_settled, not_settled, settle_here, settle_is, settle_new, settle_keeps}
use Rattle.resumed_tree.specs.declared.resuming.Start.{Start}
use Rattle.resumed_tree.specs.Offered.{HasStarts}
use Rattle.resumed_tree.specs.Resumed.{Has, CameToHave}
use Rattle.resumed_tree.specs.Taken.{HasNoLonger, HasCover, IsTaken}
use Rattle.resumed_tree.proofs.Searches.{IsSearch, settled_near}

-- an entry that came is that of a settled node, which has offered its neighbours; a settled node has its entry where that is canonical
pub record HasSpread (J : ℕ → ℕ → ℕ → Type 0) (at : List ℕ) (h p : ℕ) (before now : List (List Entry)) (nodes : List (Reach Bare)) : Type 0 where
  pub came : (x d : ℕ) → 1 ≤ x → Has now x p d → Has before x p d ⊎ IsSettledAt (reach_at nodes x) d
  pub has : (x d : ℕ) → IsSettledAt (reach_at nodes x) d → IsCanonical J at h x d → Has now x p d
  pub onward : (x d : ℕ) → IsSettledAt (reach_at nodes x) d → CameToHave before now x p d → (y w : ℕ) → J x y w → p ≤ position_of at y → (e : ℕ) × HasDistance (reach_at nodes y) e × (e ≤ d + w)

module _ (J : ℕ → ℕ → ℕ → Type 0) (at : List ℕ) (h p : ℕ) (starts : List Start) (before : List (List Entry)) where
  -- at first no node is settled
  pub HasSpread-start : (k : ℕ) (nodes : List (Reach Bare)) → HasStarts k starts nodes → HasSpread J at h p before before nodes
  HasSpread-start k nodes has = record {
    came = λ x d from_one there. inl there;
    has = λ x d done. absurd (has.waits x d done);
    onward = λ x d done. absurd (has.waits x d done);
  }

  module _ (now : List (List Entry)) (nodes : List (Reach Bare)) (search : IsSearch J at h p starts nodes) (spread : HasSpread J at h p before now nodes) where
    -- the nearest queued node is settled
    module _ (v : ℕ) (f : Found Bare) (from_one : 1 ≤ v) (queued : reach_at nodes v ≡ Queued f) (nearest : (x : ℕ) (g : Found Bare) → reach_at nodes x ≡ Queued g → f.dist ≤ g.dist) where
      -- its row needs no entry: none has come there, and a canonical one stands there
      pub HasSpread-left : ((hub : IsCanonical J at h v f.dist) → Has now v p f.dist) → HasSpread J at h p before now (settled nodes v f)
      HasSpread-left stands = record {
        came = λ x d x_from_one there. elim (spread.came x d x_from_one there) [
          | inl old ↦ inl old
          | inr done ↦ inr (settle_keeps nodes v f queued x d done)
        ];
        has = λ x d done hub. elim (settle_new nodes v f queued x d done) [
          | inl old ↦ spread.has x d old.1 hub
          | inr new ↦
              let hub_here : IsCanonical J at h v f.dist = subst (λ y. IsCanonical J at h y f.dist) new.0 (subst (IsCanonical J at h x) new.1 hub) in
              subst (λ y. Has now y p d) (sym new.0) (subst (Has now v p) (sym new.1) (stands hub_here))
        ];
        onward = λ x d done came y w arc low. elim (settle_new nodes v f queued x d done) [
          | inl old ↦
              let was = spread.onward x d old.1 came y w arc low in
              (was.0, settle_is nodes v f queued y was.0 was.1, was.2)
          | inr new ↦
              let there : Has now v p f.dist = subst (Has now v p) new.1 (subst (λ z. Has now z p d) new.0 came.0) in
              let not_before : Has before v p f.dist → ⊥ = λ was. came.1 (subst (λ z. Has before z p d) (sym new.0) (subst (Has before v p) (sym new.1) was)) in
              elim (spread.came v f.dist from_one there) [
                | inl old ↦ absurd (not_before old)
                | inr too_early ↦ absurd (not_settled (reach_at nodes v) f f.dist queued too_early)
              ]
        ];
      }

      -- its row has taken the entry, and its arcs are gone along
      module _ (next : List (List Entry)) (same : (x : ℕ) → 1 ≤ x → x ≢ v → label_row next x ≡ label_row now x) (taken : IsTaken (label_row now v) (label_row next v) (record { pos = p; dist = f.dist })) (ends : (x y w : ℕ) → J x y w → (1 ≤ x) × (1 ≤ y)) (row : List Arc) (arcs : (y w : ℕ) → J v y w → Contains row (record { to = y; w = w })) (after : List (Reach Bare)) (relaxed : IsRelaxed at p f.dist (length row) row (settled nodes v f) after) where
        has_other : (x e : ℕ) → 1 ≤ x → x ≢ v → Has next x p e → Has now x p e
        has_other x e x_from_one other there = subst (λ entries. Contains entries (record { pos = p; dist = e })) (same x x_from_one other) there

        had_other : (x e : ℕ) → 1 ≤ x → x ≢ v → Has now x p e → Has next x p e
        had_other x e x_from_one other there = subst (λ entries. Contains entries (record { pos = p; dist = e })) (sym (same x x_from_one other)) there

        -- the end of an arc of the node is as near as by the arc
        along : (y w : ℕ) → J v y w → p ≤ position_of at y → (e : ℕ) × HasDistance (reach_at after y) e × (e ≤ f.dist + w)
        along y w arc low =
            let there = arcs y w arc in
            let read : slice_get row there.0 ≡ Some (record { to = y; w = w }) = slice_get-get_or row there.0 (record { to = y; w = w }) there.1 ∙ ap Some there.2 in
            let lowest = relaxed.lowered there.0 (record { to = y; w = w }) there.1 read low in
            elim lowest.2 [
              | inl near ↦ (lowest.0, lowest.1, near)
              | inr done ↦ (lowest.0, lowest.1, omega (arith, settled_near J at h p starts nodes search v f queued nearest y lowest.0 ((relaxed.settled y lowest.0).0 done)))
            ]

        pub HasSpread-taken : HasSpread J at h p before next after
        HasSpread-taken = record {
          came = λ x d x_from_one there. elim (cases_eq x v) [
            | inl here ↦
                let is : d ≡ f.dist = taken.alone d (subst (λ y. Has next y p d) here there) in
                let done : IsSettledAt (reach_at after v) f.dist = (relaxed.settled v f.dist).1 (settle_here nodes v f queued) in
                inr (subst (λ y. IsSettledAt (reach_at after y) d) (sym here) (subst (IsSettledAt (reach_at after v)) (sym is) done))
            | inr other ↦ elim (spread.came x d x_from_one (has_other x d x_from_one other there)) [
              | inl old ↦ inl old
              | inr done ↦ inr ((relaxed.settled x d).1 (settle_keeps nodes v f queued x d done))
            ]
          ];
          has = λ x d done hub. elim (settle_new nodes v f queued x d ((relaxed.settled x d).0 done)) [
            | inl old ↦ had_other x d (search.from_one x d (has_distance (reach_at nodes x) d old.1)) old.0 (spread.has x d old.1 hub)
            | inr new ↦ subst (λ y. Has next y p d) (sym new.0) (subst (Has next v p) (sym new.1) taken.there)
          ];
          onward = λ x d done came y w arc low. elim (settle_new nodes v f queued x d ((relaxed.settled x d).0 done)) [
            | inl old ↦
                let was = spread.onward x d old.1 (has_other x d (ends x y w arc).0 old.0 came.0, came.1) y w arc low in
                let still = relaxed.kept y was.0 (settle_is nodes v f queued y was.0 was.1) in
                (still.0, still.1, omega (arith, still.2, was.2))
            | inr new ↦
                let reached = along y w (subst (λ z. J z y w) new.0 arc) low in
                (reached.0, reached.1, omega (arith, reached.2, new.1))
          ];
        }

    -- no node is queued any more
    module _ (empty : (x : ℕ) (f : Found Bare) → reach_at nodes x ≡ Queued f → ⊥) where
      settled_all : (x d : ℕ) → HasDistance (reach_at nodes x) d → IsSettledAt (reach_at nodes x) d
      settled_all x d there = elim (queued_or_settled (reach_at nodes x) d there) [
        | inl done ↦ done
        | inr waits ↦ absurd (empty x waits.0 waits.1)
      ]

      -- a node that is reached no farther than its canonical distance has its entry
      has_canonical : (x d e : ℕ) → IsCanonical J at h x d → HasDistance (reach_at nodes x) e → e ≤ d → Has now x p d
      has_canonical x d e hub there near =
          let is : e ≡ d = omega (arith, hub.least.none_shorter e (search.walk x e there), near) in
          spread.has x d (settled_all x d (subst (HasDistance (reach_at nodes x)) is there)) hub

      pub start_has : (s : Start) → Contains starts s → IsCanonical J at h s.node s.dist → Has now s.node p s.dist
      start_has s there hub = let begun = search.begun s there in has_canonical s.node s.dist begun.0 hub begun.1 begun.2

      pub neighbours_have : position_of at h ≡ p → (v d u w : ℕ) → 1 ≤ v → CameToHave before now v p d → J v u w → IsCanonical J at h u (d + w) → Has now u p (d + w)
      neighbours_have position v d u w from_one came arc hub = elim (spread.came v d from_one came.0) [
        | inl old ↦ absurd (came.1 old)
        | inr done ↦
            let reached = spread.onward v d done came u w arc not_above in
            has_canonical u (d + w) reached.0 hub reached.1 reached.2
      ]
        where
          not_above : p ≤ position_of at u
          not_above = elim (cases_lt (position_of at u) p) [
            | inl above ↦ absurd (IsCanonical-ranked J at h u (d + w) hub (omega (arith, above, position)))
            | inr low ↦ low
          ]

-- where a row has an entry of the root that is no longer, or one that covers it, a canonical entry stands there
pub stands_already : (J : ℕ → ℕ → ℕ → Type 0) → ((x y w : ℕ) → J x y w → J y x w) → (at : List ℕ) (h p : ℕ) → IsRanking at → slice_get at p ≡ Some h → position_of at h ≡ p → (table : List (Option ℕ)) (first row : List Entry) → HoldsRow table first → All (EntryFits J at h) first → (v d : ℕ) → All (EntryFits J at v) row → HasNoLonger row (record { pos = p; dist = d }) ⊎ HasCover table row (record { pos = p; dist = d }) → IsCanonical J at h v d → Contains row (record { pos = p; dist = d })
stands_already J symmetric at h p ranking root position table first row held first_fits v d fits needless hub = elim needless [
  | inl shorter ↦
      let fit = All-contains (EntryFits J at v) row (record { pos = p; dist = shorter.dist }) fits shorter.there in
      let both : Some fit.walk.0 ≡ Some h = sym fit.walk.1 ∙ root in
      let of_root : fit.walk.0 ≡ h = cc in
      let least : d ≤ shorter.dist = hub.least.none_shorter shorter.dist (subst (λ x. HasWalk J x v shorter.dist) of_root fit.walk.2) in
      let is : shorter.dist ≡ d = omega (arith, least, shorter.short) in
      subst (λ c. Contains row (record { pos = p; dist = c })) is shorter.there
  | inr covered ↦ absurd (no_cover J at h p ranking root position table first held symmetric first_fits v d row covered.cover fits hub covered.there covered.covers)
]
