-- What an offer does to a node, by distances alone.
use Rattle.std.proofs.Common.{◌≡◌, ◌≢◌, ◌⊎◌, ◌↔◌, inl, inr, ℕ, ◌<◌, ◌≤◌, true, false, cond, List, length, get_or-set_other, get_or-set_same, replicate, refl, sym, ap, subst, ◌∙◌, arith}
use Rattle.std.specs.Prelude.{◌==◌, nat_lt}
use Rattle.std.proofs.Math.ListN.{length-set, get_or-eq_default}
use Rattle.std.proofs.lemmas.Bool.{cases_eq, cases_lt, ltb-true}
use Rattle.std.proofs.lemmas.Bool.Decides.{nat_tests}
use Rattle.std.proofs.lemmas.List.{get_or-replicate, length-replicate}
use Rattle.frontier.specs.declared.reach.Found.{Found}
use Rattle.frontier.specs.declared.reach.Reach.{Reach}
use Rattle.frontier.specs.declared.reach.Reach.TheVariants.{Unreached, Queued, Settled}
use Rattle.frontier.specs.Reaches.{reach_at, better, offered, with_offer, settled}
use Rattle.pruned_tree.specs.Relaxed.{HasDistance, IsSettledAt}

module _ {C : Type 0} where
  -- one that is settled has its distance, and one of a distance is queued or settled
  pub has_distance : (r : Reach C) (d : ℕ) → IsSettledAt r d → HasDistance r d
  has_distance Unreached d h = h
  has_distance (Queued f) d h = absurd h
  has_distance (Settled f) d h = h

  pub queued_or_settled : (r : Reach C) (d : ℕ) → HasDistance r d → IsSettledAt r d ⊎ ((f : Found C) × (r ≡ Queued f) × (f.dist ≡ d))
  queued_or_settled Unreached d h = absurd h
  queued_or_settled (Queued f) d h = inr (f, refl, h)
  queued_or_settled (Settled f) d h = inl h

  pub one_distance : (r : Reach C) (d e : ℕ) → HasDistance r d → HasDistance r e → d ≡ e
  one_distance Unreached d e h k = absurd h
  one_distance (Queued f) d e h k = sym h ∙ k
  one_distance (Settled f) d e h k = sym h ∙ k

  pub not_settled : (r : Reach C) (f : Found C) (d : ℕ) → r ≡ Queued f → IsSettledAt r d → ⊥
  not_settled Unreached f d is h = h
  not_settled (Queued g) f d is h = h
  not_settled (Settled g) f d is h = cc

  pub queued_distance : (r : Reach C) (f : Found C) → r ≡ Queued f → HasDistance r f.dist
  queued_distance r f is = subst (λ s. HasDistance s f.dist) (sym is) refl

  pub settled_distance : (r : Reach C) (f : Found C) → r ≡ Settled f → IsSettledAt r f.dist
  settled_distance r f is = subst (λ s. IsSettledAt s f.dist) (sym is) refl

  pub node_inside : (nodes : List (Reach C)) (x d : ℕ) → HasDistance (reach_at nodes x) d → x < length nodes
  node_inside nodes x d h = elim (cases_lt x (length nodes)) [
    | inl inside ↦ inside
    | inr outside ↦ absurd (subst (λ r. HasDistance r d) (get_or-eq_default nodes Unreached outside) h)
  ]

  module _ (combined : C → C → C) where
    -- the shorter of two finds
    better_distance : (f o : Found C) → (((better combined f o).dist ≡ f.dist) × (f.dist ≤ o.dist)) ⊎ (((better combined f o).dist ≡ o.dist) × (o.dist ≤ f.dist))
    better_distance f o =
        elim (nat_lt o.dist f.dist) as (λ t. nat_lt o.dist f.dist ≡ t → (((cond t o (cond (o.dist == f.dist) (record { dist = f.dist; carried = combined f.carried o.carried }) f)).dist ≡ f.dist) × (f.dist ≤ o.dist)) ⊎ (((cond t o (cond (o.dist == f.dist) (record { dist = f.dist; carried = combined f.carried o.carried }) f)).dist ≡ o.dist) × (o.dist ≤ f.dist))) [
          | true ↦ λ is. inr (refl, le_from_less o.dist f.dist (ltb-true o.dist f.dist is))
          | false ↦ λ is. inl (same_distance f o, not_less o.dist f.dist is)
        ] refl
      where
        le_from_less : (a b : ℕ) → a < b → a ≤ b
        le_from_less a b less = omega arith

        not_less : (a b : ℕ) → nat_lt a b ≡ false → b ≤ a
        not_less a b is = grind (arith, nat_tests)

        same_distance : (f o : Found C) → (cond (o.dist == f.dist) (record { dist = f.dist; carried = combined f.carried o.carried }) f).dist ≡ f.dist
        same_distance f o = elim (o.dist == f.dist) as (λ t. (cond t (record { dist = f.dist; carried = combined f.carried o.carried }) f).dist ≡ f.dist) [ true ↦ refl | false ↦ refl ]

    offered_settled : (r : Reach C) (o : Found C) (d : ℕ) → IsSettledAt (offered combined r o) d ↔ IsSettledAt r d
    offered_settled Unreached o d = (λ h. h, λ h. h)
    offered_settled (Queued f) o d = (λ h. h, λ h. h)
    offered_settled (Settled f) o d = (λ h. h, λ h. h)

    offered_came : (r : Reach C) (o : Found C) (d : ℕ) → HasDistance (offered combined r o) d → HasDistance r d ⊎ (o.dist ≡ d)
    offered_came Unreached o d h = inr h
    offered_came (Queued f) o d h = elim (better_distance f o) [ inl old ↦ inl (sym old.0 ∙ h) | inr new ↦ inr (sym new.0 ∙ h) ]
    offered_came (Settled f) o d h = inl h

    offered_kept : (r : Reach C) (o : Found C) (d : ℕ) → HasDistance r d → (e : ℕ) × HasDistance (offered combined r o) e × (e ≤ d)
    offered_kept Unreached o d h = absurd h
    offered_kept (Queued f) o d h = ((better combined f o).dist, refl, elim (better_distance f o) [ inl old ↦ omega (arith, old.0, h) | inr new ↦ omega (arith, new.0, new.1, h) ])
    offered_kept (Settled f) o d h = (d, h, omega arith)

    -- a node that isn't settled is as near as the offer then
    offered_lowered : (r : Reach C) (o : Found C) → (e : ℕ) × HasDistance (offered combined r o) e × ((e ≤ o.dist) ⊎ IsSettledAt (offered combined r o) e)
    offered_lowered Unreached o = (o.dist, refl, inl (omega arith))
    offered_lowered (Queued f) o = ((better combined f o).dist, refl, inl (elim (better_distance f o) [ inl old ↦ omega (arith, old.0, old.1) | inr new ↦ omega (arith, new.0) ]))
    offered_lowered (Settled f) o = (f.dist, refl, inr refl)

    module _ (nodes : List (Reach C)) (y : ℕ) (o : Found C) (inside : y < length nodes) where
      now_at : (x : ℕ) → x ≡ y → reach_at (with_offer combined nodes y o) x ≡ offered combined (reach_at nodes y) o
      now_at x here = ap (λ z. reach_at (with_offer combined nodes y o) z) here ∙ get_or-set_same nodes y _ Unreached inside

      now_other : (x : ℕ) → x ≢ y → reach_at (with_offer combined nodes y o) x ≡ reach_at nodes x
      now_other x other = get_or-set_other nodes y x _ Unreached other

      -- the same of all nodes after an offer to one of them
      pub offer_settled : (x d : ℕ) → IsSettledAt (reach_at (with_offer combined nodes y o) x) d ↔ IsSettledAt (reach_at nodes x) d
      offer_settled x d = elim (cases_eq x y) [
        | inl here ↦
            let both = offered_settled (reach_at nodes y) o d in
            let was : reach_at nodes x ≡ reach_at nodes y = ap (reach_at nodes) here in (
              λ h. subst (λ r. IsSettledAt r d) (sym was) (both.0 (subst (λ r. IsSettledAt r d) (now_at x here) h)),
              λ h. subst (λ r. IsSettledAt r d) (sym (now_at x here)) (both.1 (subst (λ r. IsSettledAt r d) was h)),
            )
        | inr other ↦ (λ h. subst (λ r. IsSettledAt r d) (now_other x other) h, λ h. subst (λ r. IsSettledAt r d) (sym (now_other x other)) h)
      ]

      pub offer_came : (x d : ℕ) → HasDistance (reach_at (with_offer combined nodes y o) x) d → HasDistance (reach_at nodes x) d ⊎ ((x ≡ y) × (o.dist ≡ d))
      offer_came x d h = elim (cases_eq x y) [
        | inl here ↦ elim (offered_came (reach_at nodes y) o d (subst (λ r. HasDistance r d) (now_at x here) h)) [
          | inl old ↦ inl (subst (λ z. HasDistance (reach_at nodes z) d) (sym here) old)
          | inr new ↦ inr (here, new)
        ]
        | inr other ↦ inl (subst (λ r. HasDistance r d) (now_other x other) h)
      ]

      pub offer_kept : (x d : ℕ) → HasDistance (reach_at nodes x) d → (e : ℕ) × HasDistance (reach_at (with_offer combined nodes y o) x) e × (e ≤ d)
      offer_kept x d h = elim (cases_eq x y) [
        | inl here ↦
            let kept = offered_kept (reach_at nodes y) o d (subst (λ z. HasDistance (reach_at nodes z) d) here h) in
            (kept.0, subst (λ r. HasDistance r kept.0) (sym (now_at x here)) kept.1, kept.2)
        | inr other ↦ (d, subst (λ r. HasDistance r d) (sym (now_other x other)) h, omega arith)
      ]

      pub offer_lowered : (e : ℕ) × HasDistance (reach_at (with_offer combined nodes y o) y) e × ((e ≤ o.dist) ⊎ IsSettledAt (reach_at (with_offer combined nodes y o) y) e)
      offer_lowered =
          let low = offered_lowered (reach_at nodes y) o in
          (low.0, subst (λ r. HasDistance r low.0) (sym (now_at y refl)) low.1, elim low.2 [ inl near ↦ inl near | inr done ↦ inr (subst (λ r. IsSettledAt r low.0) (sym (now_at y refl)) done) ])

      pub offer_size : length (with_offer combined nodes y o) ≡ length nodes
      offer_size = length-set nodes y _

  -- after a queued node was settled
  module _ (nodes : List (Reach C)) (v : ℕ) (f : Found C) (queued : reach_at nodes v ≡ Queued f) where
    settle_at : (x : ℕ) → x ≡ v → reach_at (settled nodes v f) x ≡ Settled f
    settle_at x here = ap (λ z. reach_at (settled nodes v f) z) here ∙ get_or-set_same nodes v (Settled f) Unreached (node_inside nodes v f.dist (queued_distance (reach_at nodes v) f queued))

    settle_other : (x : ℕ) → x ≢ v → reach_at (settled nodes v f) x ≡ reach_at nodes x
    settle_other x other = get_or-set_other nodes v x (Settled f) Unreached other

    pub settle_here : IsSettledAt (reach_at (settled nodes v f) v) f.dist
    settle_here = settled_distance (reach_at (settled nodes v f) v) f (settle_at v refl)

    pub settle_was : (x d : ℕ) → HasDistance (reach_at (settled nodes v f) x) d → HasDistance (reach_at nodes x) d
    settle_was x d h = elim (cases_eq x v) [
      | inl here ↦
          let same : f.dist ≡ d = one_distance (reach_at (settled nodes v f) x) f.dist d (has_distance (reach_at (settled nodes v f) x) f.dist (settled_distance (reach_at (settled nodes v f) x) f (settle_at x here))) h in
          subst (λ e. HasDistance (reach_at nodes x) e) same (subst (λ z. HasDistance (reach_at nodes z) f.dist) (sym here) (queued_distance (reach_at nodes v) f queued))
      | inr other ↦ subst (λ r. HasDistance r d) (settle_other x other) h
    ]

    pub settle_is : (x d : ℕ) → HasDistance (reach_at nodes x) d → HasDistance (reach_at (settled nodes v f) x) d
    settle_is x d h = elim (cases_eq x v) [
      | inl here ↦
          let same : f.dist ≡ d = one_distance (reach_at nodes x) f.dist d (subst (λ z. HasDistance (reach_at nodes z) f.dist) (sym here) (queued_distance (reach_at nodes v) f queued)) h in
          subst (λ e. HasDistance (reach_at (settled nodes v f) x) e) same (has_distance (reach_at (settled nodes v f) x) f.dist (settled_distance (reach_at (settled nodes v f) x) f (settle_at x here)))
      | inr other ↦ subst (λ r. HasDistance r d) (sym (settle_other x other)) h
    ]

    -- what is settled now was so before, or is this node
    pub settle_new : (x d : ℕ) → IsSettledAt (reach_at (settled nodes v f) x) d → ((x ≢ v) × IsSettledAt (reach_at nodes x) d) ⊎ ((x ≡ v) × (d ≡ f.dist))
    settle_new x d h = elim (cases_eq x v) [
      | inl here ↦ inr (here, one_distance (reach_at (settled nodes v f) x) d f.dist (has_distance (reach_at (settled nodes v f) x) d h) (has_distance (reach_at (settled nodes v f) x) f.dist (settled_distance (reach_at (settled nodes v f) x) f (settle_at x here))))
      | inr other ↦ inl (other, subst (λ r. IsSettledAt r d) (settle_other x other) h)
    ]

    pub settle_keeps : (x d : ℕ) → IsSettledAt (reach_at nodes x) d → IsSettledAt (reach_at (settled nodes v f) x) d
    settle_keeps x d h = elim (cases_eq x v) [
      | inl here ↦ absurd (not_settled (reach_at nodes x) f d (ap (reach_at nodes) here ∙ queued) h)
      | inr other ↦ subst (λ r. IsSettledAt r d) (sym (settle_other x other)) h
    ]

    pub settle_size : length (settled nodes v f) ≡ length nodes
    settle_size = length-set nodes v (Settled f)

-- at first no node is reached
pub nothing_reached : (C : Type 0) (n x d : ℕ) → HasDistance (reach_at (replicate {A = Reach C} n Unreached) x) d → ⊥
nothing_reached C n x d h = elim (cases_lt x n) [
  | inl inside ↦ subst (λ r. HasDistance r d) (get_or-replicate {A = Reach C} n x Unreached Unreached inside) h
  | inr outside ↦ subst (λ r. HasDistance r d) (get_or-eq_default (replicate {A = Reach C} n Unreached) Unreached (le_length n x outside)) h
]
  where
    le_length : (n x : ℕ) → n ≤ x → length (replicate {A = Reach C} n Unreached) ≤ x
    le_length n x le = omega (arith, length-replicate {A = Reach C} n Unreached, le)
