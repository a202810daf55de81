-- The frontier of a tree as it is at first: the node at which it begins is queued, and no other one is reached.
use Rattle.std.proofs.Common.{◌≡◌, inl, inr, ℕ, ◌<◌, List, length, replicate, sym, ap, subst, ◌∙◌}
use Rattle.frontier.specs.declared.reach.Reach.{Reach}
use Rattle.frontier.specs.declared.reach.Reach.TheVariants.{Unreached}
use Rattle.frontier.specs.Reaches.{reach_at, with_offer}
use Rattle.pruned_tree.specs.declared.bare.Bare.{Bare}
use Rattle.pruned_tree.specs.Relaxed.{HasDistance, IsSettledAt}
use Rattle.pruned_tree.proofs.OfferedNodes.{has_distance, nothing_reached, offer_settled, offer_came, offer_lowered}

-- what counts of two offers at one distance
abbrev pub first_come : Bare → Bare → Bare
first_come a b = a

-- k nodes, of which one alone is queued, at the distance `far`
abbrev pub started_at : ℕ → ℕ → ℕ → List (Reach Bare)
started_at k start far = with_offer first_come (replicate k Unreached) start (record { dist = far; carried = record {} })

pub started : (k start far : ℕ) (cleared now : List (Reach Bare)) → cleared ≡ replicate k Unreached → now ≡ with_offer first_come cleared start (record { dist = far; carried = record {} }) → now ≡ started_at k start far
started k start far cleared now none offered = offered ∙ ap (λ ns. with_offer first_come ns start (record { dist = far; carried = record {} })) none

module _ (k start far : ℕ) (nodes : List (Reach Bare)) (now : nodes ≡ started_at k start far) (inside : start < length (replicate {A = Reach Bare} k Unreached)) where
  pub only_start : (x d : ℕ) → HasDistance (reach_at nodes x) d → (x ≡ start) × (d ≡ far)
  only_start x d there = elim (offer_came first_come (replicate {A = Reach Bare} k Unreached) start (record { dist = far; carried = record {} }) inside x d (subst (λ ns. HasDistance (reach_at ns x) d) now there)) [
    | inl old ↦ absurd (nothing_reached Bare k x d old)
    | inr new ↦ (new.0, sym new.1)
  ]

  pub none_settled : (x d : ℕ) → IsSettledAt (reach_at nodes x) d → ⊥
  none_settled x d done =
      let was = (offer_settled first_come (replicate {A = Reach Bare} k Unreached) start (record { dist = far; carried = record {} }) inside x d).0 (subst (λ ns. IsSettledAt (reach_at ns x) d) now done) in
      nothing_reached Bare k x d (has_distance (reach_at (replicate {A = Reach Bare} k Unreached) x) d was)

  pub start_reached : HasDistance (reach_at nodes start) far
  start_reached =
      let low = offer_lowered first_come (replicate {A = Reach Bare} k Unreached) start (record { dist = far; carried = record {} }) inside in
      let there : HasDistance (reach_at nodes start) low.0 = subst (λ ns. HasDistance (reach_at ns start) low.0) (sym now) low.1 in
      subst (HasDistance (reach_at nodes start)) ((only_start start low.0 there).1) there
