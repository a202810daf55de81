-- The labels of a tree, as its nodes are settled and its arcs gone along.
use Rattle.std.proofs.Common.{◌≡◌, ◌≢◌, inl, inr, ℕ, suc, ◌+◌, ◌<◌, ◌≤◌, All, List, [], ◌∷◌, length, map, get_or, replicate, get_or-set_other, get_or-set_same, sym, ap, subst, ◌∙◌, arith}
use Rattle.std.specs.Prelude.{◌↔◌, Contains}
use Rattle.std.proofs.Math.ListN.{set}
use Rattle.std.proofs.lemmas.Bool.{cases_eq}
use Rattle.std.proofs.lemmas.Bool.Decides.{eqb_tells}
use Rattle.std.proofs.lemmas.List.{map-append, length-map, get_or-map, length-replicate}
use Rattle.std.proofs.lemmas.List.Elements.{Contains-get_or, Contains-append_left, Contains-append_right, Contains-append_cases}
use Rattle.std.proofs.lemmas.List.Quantifiers.{all_pairs_push}
use Rattle.walk_laws.specs.declared.graph.Arc.{Arc}
use Rattle.walk_laws.proofs.Members.{Contains-first, Contains-cons_cases, Contains-empty}
use Rattle.frontier.specs.declared.reach.Reach.TheVariants.{Unreached, Queued, Settled}
use Rattle.plant_tree.specs.Planted.{NamesEachOnce}
use Rattle.plant_tree.specs.Wanted.{labels_with}
use Rattle.plant_tree.proofs.TreeTypes.{Found, Reach}
use Rattle.plant_tree.proofs.TreeFacts.{reach_of}
use Rattle.plant_tree.specs.Relaxed.{offer_of, relaxed, relaxed_all}
use Rattle.plant_tree.proofs.TreeSteps.{offered}
use Rattle.plant_tree.proofs.TreeSize.{queued_inside, length-relaxed, none_found, nothing_found}
use Rattle.plant_tree.proofs.TreeSettle.{not_both, not_none_settled}
use Rattle.plant_tree.proofs.PlantedExactly.{AreLabels}

-- an offer settles nothing, and a settled node stays
offered_keeps : (r : Reach) (offer s : Found) → (offered r offer ≡ Settled s) ↔ (r ≡ Settled s)
offered_keeps Unreached offer s = (λ is. absurd cc, λ is. absurd cc)
offered_keeps (Queued q) offer s = (λ is. absurd cc, λ is. absurd cc)
offered_keeps (Settled t) offer s = (λ is. is, λ is. is)

relaxed_keeps : (at : List ℕ) (f : Found) (a : Arc) (nodes : List Reach) → a.to < length nodes → (x : ℕ) (s : Found) → (reach_of (relaxed at f a nodes) x ≡ Settled s) ↔ (reach_of nodes x ≡ Settled s)
relaxed_keeps at f a nodes inside x s = elim (cases_eq x a.to) [
  | inl here ↦
      let now : reach_of (relaxed at f a nodes) x ≡ offered (reach_of nodes a.to) (offer_of at f a) = ap (λ y. reach_of (relaxed at f a nodes) y) here ∙ get_or-set_same nodes a.to _ Unreached inside in
      let keeps = offered_keeps (reach_of nodes a.to) (offer_of at f a) s in
      (λ is. ap (reach_of nodes) here ∙ keeps.0 (sym now ∙ is), λ is. now ∙ keeps.1 (ap (reach_of nodes) (sym here) ∙ is))
  | inr other ↦
      let same : reach_of (relaxed at f a nodes) x ≡ reach_of nodes x = get_or-set_other nodes a.to x _ Unreached other in
      (λ is. sym same ∙ is, λ is. same ∙ is)
]

-- labels stay as they are along a row
pub labels_kept : (p : ℕ) (at : List ℕ) (f : Found) (row : List Arc) (nodes : List Reach) (labels : List (ℕ × ℕ)) → All (λ a. a.to < length nodes) row → AreLabels p nodes labels → AreLabels p (relaxed_all at f row nodes) labels
labels_kept p at f [] nodes labels inside read = read
labels_kept p at f (a ∷ row) nodes labels inside read =
    labels_kept p at f row (relaxed at f a nodes) labels (λ k d lt. rw length-relaxed (inside (suc k) d (omega arith)))
    (λ v d. let keeps = relaxed_keeps at f a nodes (inside 0 a (omega arith)) v (record { dist = d; carried = record { position = p } }) in (λ there. keeps.1 ((read v d).0 there), λ is. (read v d).1 (keeps.0 is)))

-- a label is of no queued node
not_labelled : (p : ℕ) (nodes : List Reach) (labels : List (ℕ × ℕ)) (v : ℕ) (f : Found) → AreLabels p nodes labels → reach_of nodes v ≡ Queued f → (x d : ℕ) → Contains labels (x, d) → x ≢ v
not_labelled p nodes labels v f read queued x d there here =
    not_both (reach_of nodes v) f (record { dist = d; carried = record { position = p } }) queued (ap (reach_of nodes) (sym here) ∙ (read x d).0 there)

-- the label of a node that is settled next
pub labels_more : (p : ℕ) (nodes : List Reach) (labels : List (ℕ × ℕ)) (v : ℕ) (f : Found) → AreLabels p nodes labels → reach_of nodes v ≡ Queued f → AreLabels p (set nodes v (Settled f)) (labels_with p labels v f)
labels_more p nodes labels v f read queued x d = elim (eqb_tells f.carried.position p) [
  | inl root ↦ rw root.0 (
    λ there. elim (Contains-append_cases labels ((v, f.dist) ∷ []) (x, d) there) [
      | inl before ↦ settled_other (not_labelled p nodes labels v f read queued x d before) ((read x d).0 before)
      | inr last ↦ elim (Contains-cons_cases (v, f.dist) (x, d) [] last) [
        | inl is ↦
            let node : v ≡ x = ap (λ (e : ℕ × ℕ). e.0) is in
            let long : f.dist ≡ d = ap (λ (e : ℕ × ℕ). e.1) is in
            ap (λ y. reach_of (set nodes v (Settled f)) y) (sym node) ∙ now ∙ (λ i. Settled (record { dist = long i; carried = record { position = root.1 i } }))
        | inr none ↦ absurd (Contains-empty (x, d) none)
      ]
    ],
    λ is. elim (cases_eq x v) [
      | inl here ↦
          let same = settled_at here is in
          Contains-append_right labels ((v, f.dist) ∷ []) (x, d) (subst (λ e. Contains ((v, f.dist) ∷ []) e) (λ i. (sym here i, (ap (λ (k : Found). k.dist) same) i)) (Contains-first (v, f.dist) []))
      | inr other ↦ Contains-append_left labels ((v, f.dist) ∷ []) (x, d) ((read x d).1 (sym (get_or-set_other nodes v x (Settled f) Unreached other) ∙ is))
    ],
  )
  | inr not_root ↦ rw not_root.0 (
    λ before. settled_other (not_labelled p nodes labels v f read queued x d before) ((read x d).0 before),
    λ is. elim (cases_eq x v) [
      | inl here ↦ absurd (not_root.1 (ap (λ (k : Found). k.carried.position) (settled_at here is)))
      | inr other ↦ (read x d).1 (sym (get_or-set_other nodes v x (Settled f) Unreached other) ∙ is)
    ],
  )
]
  where
    now : reach_of (set nodes v (Settled f)) v ≡ Settled f
    now = get_or-set_same nodes v (Settled f) Unreached (queued_inside nodes v f queued)

    settled_other : x ≢ v → reach_of nodes x ≡ Settled (record { dist = d; carried = record { position = p } }) → reach_of (set nodes v (Settled f)) x ≡ Settled (record { dist = d; carried = record { position = p } })
    settled_other other is = get_or-set_other nodes v x (Settled f) Unreached other ∙ is

    settled_at : x ≡ v → reach_of (set nodes v (Settled f)) x ≡ Settled (record { dist = d; carried = record { position = p } }) → f ≡ record { dist = d; carried = record { position = p } }
    settled_at here is =
        let both : Settled f ≡ Settled (record { dist = d; carried = record { position = p } }) = sym now ∙ ap (λ y. reach_of (set nodes v (Settled f)) y) (sym here) ∙ is in
        cc

-- it names a node that the labels before it do not
pub once_more : (p : ℕ) (nodes : List Reach) (labels : List (ℕ × ℕ)) (v : ℕ) (f : Found) → AreLabels p nodes labels → reach_of nodes v ≡ Queued f → NamesEachOnce labels → NamesEachOnce (labels_with p labels v f)
once_more p nodes labels v f read queued once = elim (eqb_tells f.carried.position p) [
  | inl root ↦ rw (root.0, map-append) (all_pairs_push (λ x y. x ≢ y) (map (λ e. e.0) labels) v once
      (λ k d lt. let inside : k < length labels = omega (arith, length-map labels (λ (e : ℕ × ℕ). e.0)) in
      let e = get_or labels k (d, 0) in
      rw (get_or-map (λ (e : ℕ × ℕ). e.0) labels k (d, 0) d inside) (not_labelled p nodes labels v f read queued e.0 e.1 (Contains-get_or labels k (d, 0) inside))))
  | inr not_root ↦ rw not_root.0 once
]

-- at first nothing is labelled
pub labels-start : (n root p : ℕ) (nodes : List Reach) → nodes ≡ replicate (n + 1) none_found → root ≤ n → AreLabels p (set nodes root (Queued (record { dist = 0; carried = record { position = p } }))) []
labels-start n root p nodes e up_to_n v d = (
  λ there. absurd (Contains-empty (v, d) there),
  λ is. elim (cases_eq v root) [
    | inl here ↦
        let inside : root < length nodes = omega (arith, ap length e, length-replicate (n + 1) none_found) in
        absurd (not_both _ (record { dist = 0; carried = record { position = p } }) _ (get_or-set_same nodes root _ Unreached inside) (ap (λ y. reach_of (set nodes root (Queued (record { dist = 0; carried = record { position = p } }))) y) (sym here) ∙ is))
    | inr other ↦
        absurd (not_none_settled _ _ (get_or-set_other nodes root v _ Unreached other ∙ ap (λ ns. reach_of ns v) e ∙ nothing_found (n + 1) v) is)
  ],
)
