-- The arcs of a row are gone along one after another.
use Rattle.std.proofs.Common.{◌≡◌, ◌⊎◌, inl, inr, false, ℕ, ◌+◌, ◌<◌, ◌≤◌, List, length, get_or, refl, sym, ap, subst, ◌∙◌, arith}
use Rattle.std.specs.Prelude.{Some, slice_get}
use Rattle.std.proofs.lemmas.Bool.{cases_eq, leb-false}
use Rattle.std.proofs.lemmas.Option.{slice_get-get_or}
use Rattle.walk_laws.specs.declared.graph.Arc.{Arc}
use Rattle.walk_laws.specs.Ranking.{position_of}
use Rattle.frontier.specs.declared.reach.Found.{Found}
use Rattle.frontier.specs.declared.reach.Reach.{Reach}
use Rattle.frontier.specs.declared.reach.Reach.TheVariants.{Unreached, Queued, Settled}
use Rattle.frontier.specs.Reaches.{reach_at, improves, with_offer}
use Rattle.pruned_tree.specs.Relaxed.{HasDistance, IsSettledAt, IsRelaxed}
use Rattle.pruned_tree.proofs.OfferedNodes.{has_distance, offer_settled, offer_came, offer_kept, offer_lowered, offer_size}

at_here : (row : List Arc) (i : ℕ) (d : Arc) → i < length row → (k : ℕ) (a : Arc) → k ≡ i → slice_get row k ≡ Some a → a ≡ get_or row i d
at_here row i d within k a same there =
    let both : Some a ≡ Some (get_or row i d) = sym there ∙ ap (slice_get row) same ∙ slice_get-get_or row i d within in
    cc

-- where no offer at the distance d changes anything, the node is settled or as near
unimproved : {C : Type 0} (r : Reach C) (d : ℕ) → improves r d ≡ false → (e : ℕ) × HasDistance r e × ((e ≤ d) ⊎ IsSettledAt r e)
unimproved Unreached d unchanged = absurd cc
unimproved (Queued found) d unchanged = (found.dist, refl, inl (omega (arith, leb-false d found.dist unchanged)))
unimproved (Settled found) d unchanged = (found.dist, refl, inr refl)

module _ {C : Type 0} (at : List ℕ) (p dist : ℕ) (row : List Arc) where
  pub IsRelaxed-none : (nodes : List (Reach C)) → IsRelaxed at p dist 0 row nodes nodes
  IsRelaxed-none nodes = record {
    size = refl;
    settled = λ x d. (λ h. h, λ h. h);
    came = λ x d h. inl h;
    kept = λ x d h. (d, h, omega arith);
    lowered = λ k a lt. absurd (omega (arith, lt));
  }

  module _ (i : ℕ) (d : Arc) (within : i < length row) where
    -- an arc to a node that ranks above the root is passed over
    pub IsRelaxed-over : (before now : List (Reach C)) → position_of at (get_or row i d).to < p → IsRelaxed at p dist i row before now → IsRelaxed at p dist (i + 1) row before now
    IsRelaxed-over before now above so_far = record {
      size = so_far.size;
      settled = so_far.settled;
      came = so_far.came;
      kept = so_far.kept;
      lowered = λ k a lt there low. elim (cases_eq k i) [
        | inl same ↦ let is = ap (λ (b : Arc). position_of at b.to) (at_here row i d within k a same there) in absurd (omega (arith, is, above, low))
        | inr other ↦ so_far.lowered k a (omega (arith, lt, other)) there low
      ];
    }

    -- and so is one along which an offer would change nothing
    pub IsRelaxed-unimproved : (before now : List (Reach C)) → improves (reach_at now (get_or row i d).to) (dist + (get_or row i d).w) ≡ false → IsRelaxed at p dist i row before now → IsRelaxed at p dist (i + 1) row before now
    IsRelaxed-unimproved before now unchanged so_far = record {
      size = so_far.size;
      settled = so_far.settled;
      came = so_far.came;
      kept = so_far.kept;
      lowered = λ k a lt there low. elim (cases_eq k i) [
        | inl same ↦
            let P : Arc → Type 0 = λ b. (e : ℕ) × HasDistance (reach_at now b.to) e × ((e ≤ dist + b.w) ⊎ IsSettledAt (reach_at now b.to) e) in
            subst P (sym (at_here row i d within k a same there)) (unimproved (reach_at now (get_or row i d).to) (dist + (get_or row i d).w) unchanged)
        | inr other ↦ so_far.lowered k a (omega (arith, lt, other)) there low
      ];
    }

    -- along any other the walk is offered
    pub IsRelaxed-next : (combined : C → C → C) (before now : List (Reach C)) (o : Found C) → o.dist ≡ dist + (get_or row i d).w → p ≤ position_of at (get_or row i d).to → (get_or row i d).to < length now → IsRelaxed at p dist i row before now → IsRelaxed at p dist (i + 1) row before (with_offer combined now (get_or row i d).to o)
    IsRelaxed-next combined before now o long low inside so_far =
        record {
          size = offer_size combined now (get_or row i d).to o inside ∙ so_far.size;
          settled = λ x e.
              let step = offer_settled combined now (get_or row i d).to o inside x e in
              let was = so_far.settled x e in
              (λ h. was.0 (step.0 h), λ h. step.1 (was.1 h));
          came = λ x e h. elim (offer_came combined now (get_or row i d).to o inside x e h) [
            | inl old ↦ so_far.came x e old
            | inr new ↦ inr (
              record { place = i; arc = get_or row i d; there = slice_get-get_or row i d within; leads = sym new.0; long = sym long ∙ new.1 },
              subst (λ z. p ≤ position_of at z) (sym new.0) low,
            )
          ];
          kept = λ x e h.
              let first = so_far.kept x e h in
              let then = offer_kept combined now (get_or row i d).to o inside x first.0 first.1 in
              (then.0, then.1, omega (arith, first.2, then.2));
          lowered = λ k a lt there ranked. elim (cases_eq k i) [
            | inl same ↦
                let is = at_here row i d within k a same there in
                let lowest = offer_lowered combined now (get_or row i d).to o inside in
                let P : Arc → Type 0 = λ b. (e : ℕ) × HasDistance (reach_at (with_offer combined now (get_or row i d).to o) b.to) e × ((e ≤ dist + b.w) ⊎ IsSettledAt (reach_at (with_offer combined now (get_or row i d).to o) b.to) e) in
                subst P (sym is) (lowest.0, lowest.1, elim lowest.2 [ inl near ↦ inl (omega (arith, near, long)) | inr done ↦ inr done ])
            | inr other ↦
                let was = so_far.lowered k a (omega (arith, lt, other)) there ranked in
                elim was.2 [
                  | inl near ↦
                      let then = offer_kept combined now (get_or row i d).to o inside a.to was.0 was.1 in
                      (then.0, then.1, inl (omega (arith, near, then.2)))
                  | inr done ↦
                      let still = (offer_settled combined now (get_or row i d).to o inside a.to was.0).1 done in
                      (was.0, has_distance (reach_at (with_offer combined now (get_or row i d).to o) a.to) was.0 still, inr still)
                ]
          ];
        }
