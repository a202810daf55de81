-- What a pruned tree has put in the rows at each moment, whatever each visit found of them.
use Rattle.std.proofs.Common.{◌≡◌, ◌≢◌, ◌⊎◌, inl, inr, ℕ, ◌+◌, ◌<◌, ◌≤◌, List, [], ◌∷◌, ◌++◌, length, sym, ap, subst, ◌∙◌, arith}
use Rattle.std.specs.Prelude.{Some, slice_get}
use Rattle.std.proofs.lemmas.Bool.{cases_eq}
use Rattle.std.proofs.lemmas.List.{length-append}
use Rattle.walk_laws.specs.declared.entry.Entry.{Entry}
use Rattle.walk_laws.specs.declared.graph.Arc.{Arc}
use Rattle.walk_laws.specs.Ranking.{position_of}
use Rattle.walk_laws.specs.Walk.{HasWalk}
use Rattle.walk_laws.proofs.Walks.{HasWalk-after, HasWalk-same}
use Rattle.frontier.specs.declared.reach.Found.{Found}
use Rattle.frontier.specs.declared.reach.Reach.{Reach}
use Rattle.frontier.specs.declared.reach.Reach.TheVariants.{Queued}
use Rattle.frontier.specs.Reaches.{reach_at, settled}
use Rattle.pruned_tree.specs.declared.bare.Bare.{Bare}
use Rattle.pruned_tree.specs.Grown.{Gains, ExtendsOne, IsPruned}
use Rattle.pruned_tree.specs.Relaxed.{HasDistance, IsSettledAt, Along, IsRelaxed}
use Rattle.pruned_tree.proofs.OfferedNodes.{has_distance, not_settled, settle_was, settle_keeps}

-- a list with an element after it is another list, and tells that element
pub not_longer : (xs : List Entry) (e : Entry) → xs ++ e ∷ [] ≡ xs → ⊥
not_longer xs e same = omega (arith, length-append xs (e ∷ []), ap length same)

pub same_last : (xs : List Entry) (e f : Entry) → xs ++ e ∷ [] ≡ xs ++ f ∷ [] → e ≡ f
same_last [] e f same = cc
same_last (x ∷ xs) e f same = let rest : xs ++ e ∷ [] ≡ xs ++ f ∷ [] = cc in same_last xs e f rest

-- each node that is reached has a walk of its distance after nodes that gained their entries, and each entry gained is that of a settled node
pub record IsGrowth (J : ℕ → ℕ → ℕ → Type 0) (at : List ℕ) (h p : ℕ) (before : ℕ → List Entry) (nodes : List (Reach Bare)) (puts : ℕ → List Entry) : Type 0 where
  pub one : (x : ℕ) → 1 ≤ x → (puts x ≡ before x) ⊎ ((d : ℕ) × IsSettledAt (reach_at nodes x) d × Gains before puts p x d)
  pub from_one : (x d : ℕ) → HasDistance (reach_at nodes x) d → 1 ≤ x
  pub walk : (x d : ℕ) → HasDistance (reach_at nodes x) d → HasWalk J h x d
  pub ranked : (x d : ℕ) → HasDistance (reach_at nodes x) d → p ≤ position_of at x
  pub way : (x d : ℕ) → HasDistance (reach_at nodes x) d → 0 < d → ExtendsOne J before puts p x d

module _ (J : ℕ → ℕ → ℕ → Type 0) (at : List ℕ) (h p : ℕ) (before : ℕ → List Entry) where
  pub not_gained : (puts : ℕ → List Entry) (v d : ℕ) → puts v ≡ before v → Gains before puts p v d → ⊥
  not_gained puts v d same gained = not_longer (before v) (record { pos = p; dist = d }) (sym gained ∙ same)

  pub one_gain : (puts : ℕ → List Entry) (v d e : ℕ) → Gains before puts p v d → Gains before puts p v e → d ≡ e
  one_gain puts v d e a b = ap (λ (x : Entry). x.dist) (same_last (before v) (record { pos = p; dist = d }) (record { pos = p; dist = e }) (sym a ∙ b))

  module _ (nodes : List (Reach Bare)) (puts : ℕ → List Entry) (grown : IsGrowth J at h p before nodes puts) where
    -- a node that gained an entry is settled at its distance
    pub gained_settled : (v d : ℕ) → 1 ≤ v → Gains before puts p v d → IsSettledAt (reach_at nodes v) d
    gained_settled v d from_one gained = elim (grown.one v from_one) [
      | inl same ↦ absurd (not_gained puts v d same gained)
      | inr got ↦ subst (IsSettledAt (reach_at nodes v)) (one_gain puts v got.0 d got.2 gained) got.1
    ]

    pub gained_distance : (v d : ℕ) → 1 ≤ v → Gains before puts p v d → HasDistance (reach_at nodes v) d
    gained_distance v d from_one gained = has_distance (reach_at nodes v) d (gained_settled v d from_one gained)

    -- a queued node has gained none
    pub queued_gains_none : (v : ℕ) (f : Found Bare) → 1 ≤ v → reach_at nodes v ≡ Queued f → puts v ≡ before v
    queued_gains_none v f from_one queued = elim (grown.one v from_one) [
      | inl same ↦ same
      | inr got ↦ absurd (not_settled (reach_at nodes v) f got.0 queued got.1)
    ]

    pub IsPruned-from_growth : slice_get at p ≡ Some h → IsPruned J at before puts p
    IsPruned-from_growth root = record {
      one = λ v from_one. elim (grown.one v from_one) [ inl same ↦ inl same | inr got ↦ inr (got.0, got.2) ];
      fits = λ v d from_one gained.
          let there = gained_distance v d from_one gained in
          record { ranked = grown.ranked v d there; walk = (h, root, grown.walk v d there) };
      extends = λ v d from_one gained far. grown.way v d (gained_distance v d from_one gained) far;
    }

    -- the nearest node is settled
    pub IsGrowth-settled : (v : ℕ) (f : Found Bare) → reach_at nodes v ≡ Queued f → IsGrowth J at h p before (settled nodes v f) puts
    IsGrowth-settled v f queued = record {
      one = λ x from_one. elim (grown.one x from_one) [ inl same ↦ inl same | inr got ↦ inr (got.0, settle_keeps nodes v f queued x got.0 got.1, got.2) ];
      from_one = λ x d there. grown.from_one x d (settle_was nodes v f queued x d there);
      walk = λ x d there. grown.walk x d (settle_was nodes v f queued x d there);
      ranked = λ x d there. grown.ranked x d (settle_was nodes v f queued x d there);
      way = λ x d there far. grown.way x d (settle_was nodes v f queued x d there) far;
    }

    module _ (ends : (x y w : ℕ) → J x y w → (1 ≤ x) × (1 ≤ y)) where
      -- nothing is put
      pub IsGrowth-same : (others : ℕ → List Entry) → ((x : ℕ) → 1 ≤ x → others x ≡ puts x) → IsGrowth J at h p before nodes others
      IsGrowth-same others same = record {
        one = λ x from_one. elim (grown.one x from_one) [ inl none ↦ inl (same x from_one ∙ none) | inr got ↦ inr (got.0, got.1, same x from_one ∙ got.2) ];
        from_one = grown.from_one;
        walk = grown.walk;
        ranked = grown.ranked;
        way = λ x d there far.
            let last = grown.way x d there far in
            record { node = last.node; weight = last.weight; dist = last.dist; arc = last.arc; gained = same last.node (ends last.node x last.weight last.arc).0 ∙ last.gained; long = last.long };
      }

      -- an entry is put at a settled node
      module _ (v d : ℕ) (from_one : 1 ≤ v) (there : IsSettledAt (reach_at nodes v) d) (none : puts v ≡ before v) (others : ℕ → List Entry) (put : others v ≡ puts v ++ record { pos = p; dist = d } ∷ []) (same : (x : ℕ) → 1 ≤ x → x ≢ v → others x ≡ puts x) where
        pub put_gains : Gains before others p v d
        put_gains = put ∙ ap (λ xs. xs ++ record { pos = p; dist = d } ∷ []) none

        pub gain_stays : (x e : ℕ) → 1 ≤ x → Gains before puts p x e → Gains before others p x e
        gain_stays x e x_from_one gained = elim (cases_eq x v) [
          | inl here ↦ absurd (not_gained puts v e none (subst (λ y. Gains before puts p y e) here gained))
          | inr other ↦ same x x_from_one other ∙ gained
        ]

        pub IsGrowth-put : IsGrowth J at h p before nodes others
        IsGrowth-put = record {
          one = λ x x_from_one. elim (cases_eq x v) [
            | inl here ↦ inr (d, subst (λ y. IsSettledAt (reach_at nodes y) d) (sym here) there, subst (λ y. Gains before others p y d) (sym here) put_gains)
            | inr other ↦ elim (grown.one x x_from_one) [
              | inl empty ↦ inl (same x x_from_one other ∙ empty)
              | inr got ↦ inr (got.0, got.1, same x x_from_one other ∙ got.2)
            ]
          ];
          from_one = grown.from_one;
          walk = grown.walk;
          ranked = grown.ranked;
          way = λ x e reached far.
              let last = grown.way x e reached far in
              record { node = last.node; weight = last.weight; dist = last.dist; arc = last.arc; gained = gain_stays last.node last.dist (ends last.node x last.weight last.arc).0 last.gained; long = last.long };
        }

      -- the arcs of a node that gained its entry are gone along
      module _ (v d count : ℕ) (row : List Arc) (there : IsSettledAt (reach_at nodes v) d) (gained : Gains before puts p v d) (arcs : (k : ℕ) (a : Arc) → slice_get row k ≡ Some a → J v a.to a.w) (after : List (Reach Bare)) (relaxed : IsRelaxed at p d count row nodes after) where
        arc_along : (x e : ℕ) → (way : Along row d x e) → J v x way.arc.w
        arc_along x e way = subst (λ y. J v y way.arc.w) way.leads (arcs way.place way.arc way.there)

        pub IsGrowth-relaxed : IsGrowth J at h p before after puts
        IsGrowth-relaxed = record {
          one = λ x from_one. elim (grown.one x from_one) [ inl same ↦ inl same | inr got ↦ inr (got.0, (relaxed.settled x got.0).1 got.1, got.2) ];
          from_one = λ x e reached. elim (relaxed.came x e reached) [
            | inl old ↦ grown.from_one x e old
            | inr new ↦ (ends v x new.0.arc.w (arc_along x e new.0)).1
          ];
          walk = λ x e reached. elim (relaxed.came x e reached) [
            | inl old ↦ grown.walk x e old
            | inr new ↦ HasWalk-same J h x (d + new.0.arc.w) e new.0.long (HasWalk-after J h v x new.0.arc.w d (grown.walk v d (has_distance (reach_at nodes v) d there)) (arc_along x e new.0))
          ];
          ranked = λ x e reached. elim (relaxed.came x e reached) [ inl old ↦ grown.ranked x e old | inr new ↦ new.1 ];
          way = λ x e reached far. elim (relaxed.came x e reached) [
            | inl old ↦ grown.way x e old far
            | inr new ↦ record { node = v; weight = new.0.arc.w; dist = d; arc = arc_along x e new.0; gained = gained; long = new.0.long }
          ];
        }
