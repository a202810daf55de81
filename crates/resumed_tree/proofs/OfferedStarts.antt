-- A frontier that is offered the starts of a tree, one after another.
use Rattle.std.proofs.Common.{◌≡◌, inl, inr, ℕ, ◌<◌, ◌≤◌, List, [], ◌∷◌, ◌++◌, Contains, length, replicate, sym, subst, ◌∙◌, arith}
use Rattle.std.proofs.lemmas.List.{length-replicate}
use Rattle.std.proofs.lemmas.List.Elements.{Contains-append_left, Contains-push, Contains-push_cases}
use Rattle.walk_laws.proofs.Members.{Contains-empty}
use Rattle.frontier.specs.declared.reach.Reach.{Reach}
use Rattle.frontier.specs.declared.reach.Reach.TheVariants.{Unreached}
use Rattle.frontier.specs.Reaches.{reach_at, with_offer}
use Rattle.pruned_tree.specs.declared.bare.Bare.{Bare}
use Rattle.pruned_tree.specs.Relaxed.{HasDistance, IsSettledAt}
use Rattle.pruned_tree.proofs.OfferedNodes.{has_distance, nothing_reached, offer_settled, offer_came, offer_kept, offer_lowered, offer_size}
use Rattle.pruned_tree.proofs.StartedTrees.{first_come}
use Rattle.resumed_tree.specs.declared.resuming.Start.{Start}
use Rattle.resumed_tree.specs.Offered.{HasStarts}

-- a frontier that has reached no node
pub HasStarts-none : (k : ℕ) → HasStarts k [] (replicate k Unreached)
HasStarts-none k = record {
  size = length-replicate {A = Reach Bare} k Unreached;
  came = λ x d there. absurd (nothing_reached Bare k x d there);
  waits = λ x d done. nothing_reached Bare k x d (has_distance (reach_at (replicate {A = Reach Bare} k Unreached) x) d done);
  near = λ s there. absurd (Contains-empty s there);
}

-- one start more
module _ (k : ℕ) (starts : List Start) (nodes : List (Reach Bare)) (has : HasStarts k starts nodes) (s : Start) (inside : s.node < length nodes) (after : List (Reach Bare)) (now : after ≡ with_offer first_come nodes s.node (record { dist = s.dist; carried = record {} })) where
  abbrev offered : List (Reach Bare)
  offered = with_offer first_come nodes s.node (record { dist = s.dist; carried = record {} })

  still_waits : (x d : ℕ) → IsSettledAt (reach_at offered x) d → ⊥
  still_waits x d done = has.waits x d ((offer_settled first_come nodes s.node (record { dist = s.dist; carried = record {} }) inside x d).0 done)

  more_came : (x d : ℕ) → HasDistance (reach_at offered x) d → (t : Start) × Contains (starts ++ s ∷ []) t × (t.node ≡ x) × (t.dist ≡ d)
  more_came x d there = elim (offer_came first_come nodes s.node (record { dist = s.dist; carried = record {} }) inside x d there) [
    | inl old ↦ let was = has.came x d old in (was.0, Contains-append_left starts (s ∷ []) was.0 was.1, was.2, was.3)
    | inr new ↦ (s, Contains-push starts s, sym new.0, new.1)
  ]

  near_here : (e : ℕ) × HasDistance (reach_at offered s.node) e × (e ≤ s.dist)
  near_here =
      let low = offer_lowered first_come nodes s.node (record { dist = s.dist; carried = record {} }) inside in
      elim low.2 [
        | inl near ↦ (low.0, low.1, near)
        | inr done ↦ absurd (still_waits s.node low.0 done)
      ]

  still_near : (t : Start) → Contains (starts ++ s ∷ []) t → (e : ℕ) × HasDistance (reach_at offered t.node) e × (e ≤ t.dist)
  still_near t there = elim (Contains-push_cases starts s t there) [
    | inl old ↦
        let was = has.near t old in
        let kept = offer_kept first_come nodes s.node (record { dist = s.dist; carried = record {} }) inside t.node was.0 was.1 in
        (kept.0, kept.1, omega (arith, kept.2, was.2))
    | inr is ↦ subst (λ (u : Start). (e : ℕ) × HasDistance (reach_at offered u.node) e × (e ≤ u.dist)) is near_here
  ]

  pub HasStarts-more : HasStarts k (starts ++ s ∷ []) after
  HasStarts-more = subst (HasStarts k (starts ++ s ∷ [])) (sym now) (record {
    size = offer_size first_come nodes s.node (record { dist = s.dist; carried = record {} }) inside ∙ has.size;
    came = more_came;
    waits = still_waits;
    near = still_near;
  })
