-- How the tree begins, and what it says of canonical hubs once no queued node carries the root.
use Rattle.std.proofs.Common.{◌≡◌, ◌≢◌, inl, inr, ℕ, zero, suc, ◌+◌, ◌<◌, ◌≤◌, List, length, get_or, replicate, get_or-set_other, get_or-set_same, sym, ap, subst, ◌∙◌, arith}
use Rattle.std.specs.Prelude.{◌↔◌}
use Rattle.std.proofs.Math.ListN.{set}
use Rattle.std.proofs.lemmas.Bool.{cases_eq, cases_lt}
use Rattle.std.proofs.lemmas.List.{length-replicate}
use Rattle.walk_laws.specs.On.{IsOn}
use Rattle.walk_laws.specs.Canonical.{IsCanonical}
use Rattle.walk_laws.specs.Ranking.{position_of}
use Rattle.walk_laws.proofs.LeastWalks.{IsLeast-unique, IsLeast-same}
use Rattle.walk_laws.proofs.OnWalks.{IsOn-start, IsOn-end, IsOn-last, IsOn-step}
use Rattle.walk_laws.proofs.CanonicalHubs.{IsCanonical-inherited}
use Rattle.plant_tree.proofs.TreeTypes.{Found, Reach}
use Rattle.frontier.specs.declared.reach.Reach.TheVariants.{Unreached, Queued, Settled}
use Rattle.plant_tree.proofs.TreeFacts.{reach_of, IsTree, From, reach_cases, at_none, at_queued, at_settled, queued_walk, carried_is_on}
use Rattle.plant_tree.proofs.TreeSize.{none_found, nothing_found}
use Rattle.plant_tree.proofs.TreeSettle.{not_both, not_none, not_none_settled}

-- the root alone is queued, at distance 0
pub record Starts (h p : ℕ) (nodes : List Reach) : Type 0 where
  pub at_root : reach_of nodes h ≡ Queued (record { dist = 0; carried = record { position = p } })
  pub elsewhere : (x : ℕ) → x ≢ h → reach_of nodes x ≡ Unreached

pub starts : (n h p : ℕ) (nodes : List Reach) → nodes ≡ replicate (n + 1) none_found → h ≤ n → Starts h p (set nodes h (Queued (record { dist = 0; carried = record { position = p } })))
starts n h p nodes e up_to_n = record {
  at_root = get_or-set_same nodes h _ Unreached (omega (arith, ap length e, length-replicate (n + 1) none_found));
  elsewhere = λ x other. get_or-set_other nodes h x _ Unreached other ∙ ap (λ ns. get_or ns x Unreached) e ∙ nothing_found (n + 1) x;
}

module _ (J : ℕ → ℕ → ℕ → Type 0) (at : List ℕ) (h : ℕ) (nodes : List Reach) (start : Starts h (position_of at h) nodes) where
  none_settled : (x : ℕ) (f : Found) → reach_of nodes x ≡ Settled f → ⊥
  none_settled x f is = elim (cases_eq x h) [
    | inl here ↦ not_both _ _ f start.at_root (ap (λ y. reach_of nodes y) (sym here) ∙ is)
    | inr other ↦ not_none_settled _ f (start.elsewhere x other) is
  ]

  only_root : (x : ℕ) (f : Found) → reach_of nodes x ≡ Queued f → (x ≡ h) × (record { dist = 0; carried = record { position = position_of at h } } ≡ f)
  only_root x f is = elim (cases_eq x h) [
    | inl here ↦
        let same : Queued (record { dist = 0; carried = record { position = position_of at h } }) ≡ Queued f = sym start.at_root ∙ ap (λ y. reach_of nodes y) (sym here) ∙ is in
        (here, cc)
    | inr other ↦ absurd (not_none _ f (start.elsewhere x other) is)
  ]

  pub first_tree : IsTree J J at h nodes
  first_tree = record {
    least = λ x f is. absurd (none_settled x f is);
    highest = λ x f is. absurd (none_settled x f is);
    queued = λ x f is.
        let root = only_root x f is in
        let dist : 0 ≡ f.dist = ap (λ (g : Found). g.dist) root.1 in
        let high : position_of at x ≡ f.carried.position = ap (position_of at) root.0 ∙ ap (λ (g : Found). g.carried.position) root.1 in
        record {
          shortest = λ t. absurd (none_settled t.node t.found t.settled);
          own = omega arith;
          higher = λ t e. absurd (none_settled t.node t.found t.settled);
          way = inl (root.0, sym dist);
          carries = inl (sym high);
        };
    unreached = λ x is t. none_settled t.node t.found t.settled;
    root = λ is. not_none _ _ is start.at_root;
    root_first = λ f g y is settled. none_settled y g settled;
    order = λ y x g f settled is. absurd (none_settled y g settled);
  }

-- what a tree in which no queued node carries its root labels with it
pub record IsLabelled (at : List ℕ) (h : ℕ) (nodes : List Reach) (v d : ℕ) : Type 0 where
  pub found : Found
  pub settled : reach_of nodes v ≡ Settled found
  pub root : found.carried.position ≡ position_of at h
  pub long : found.dist ≡ d

module _ (J : ℕ → ℕ → ℕ → Type 0) (positive : (x y w : ℕ) → J x y w → 1 ≤ w) (at : List ℕ) (h : ℕ) (nodes : List Reach) (tree : IsTree J J at h nodes) (done : (x : ℕ) (f : Found) → reach_of nodes x ≡ Queued f → f.carried.position ≢ position_of at h) where
  root_is_settled : (f : Found) × (reach_of nodes h ≡ Settled f)
  root_is_settled = elim (reach_cases (reach_of nodes h)) [
    | at_none is ↦ absurd (tree.root is)
    | at_queued q is ↦ elim (tree.queued h q is).carries [
      | inl own ↦ absurd (done h q is own)
      | inr from ↦ absurd (tree.root_first q from.0.found from.0.node is from.0.settled)
    ]
    | at_settled f is ↦ (f, is)
  ]

  -- a settled node for which the root is canonical carries it
  carries_root : (y a : ℕ) (g : Found) → IsCanonical J at h y a → reach_of nodes y ≡ Settled g → (g.dist ≡ a) × (g.carried.position ≡ position_of at h)
  carries_root y a g hub settled =
      let highest = tree.highest y g settled in
      let not_above : position_of at h ≤ g.carried.position = elim (cases_lt g.carried.position (position_of at h)) [
        | inl above ↦ absurd (hub.highest highest.some.0 highest.some.1 (omega (arith, highest.some.2)))
        | inr below ↦ below
      ] in
      (IsLeast-unique J h y g.dist a (tree.least y g settled) hub.least, omega (arith, highest.above h (IsOn-start J h y a hub.least)))

  -- so no node after it for which the root is canonical is queued: it would carry the root
  never_queued : (y v w a d : ℕ) (g q : Found) → IsCanonical J at h y a → IsCanonical J at h v d → reach_of nodes y ≡ Settled g → J y v w → a + w ≡ d → reach_of nodes v ≡ Queued q → ⊥
  never_queued y v w a d g q before hub settled arc long queued =
      let root = carries_root y a g before settled in
      let way : From J nodes v = record { node = y; weight = w; found = g; settled = settled; arc = arc } in
      let dist : q.dist ≡ d = omega (arith, root.0, (tree.queued v q queued).shortest way, hub.least.none_shorter q.dist (queued_walk J at h nodes tree v q queued)) in
      let carried = carried_is_on J at h nodes tree v q queued (IsLeast-same J h v d q.dist (sym dist) hub.least) in
      let not_above : position_of at h ≤ q.carried.position = elim (cases_lt q.carried.position (position_of at h)) [
        | inl above ↦ absurd (hub.highest carried.0 carried.1 (omega (arith, carried.2)))
        | inr below ↦ below
      ] in
      done v q queued (omega (arith, (tree.queued v q queued).higher way (omega (arith, root.0)), root.1))

  -- each node for which the root is canonical is settled, along a shortest walk to it
  canonical_is_settled : (k v d : ℕ) → d < k → IsCanonical J at h v d → (f : Found) × (reach_of nodes v ≡ Settled f)
  canonical_is_settled zero v d less hub = absurd (omega arith)
  canonical_is_settled (suc k) v d less hub = elim (IsOn-last J h h v (IsOn-start J h v d hub.least)) [
    | inl here ↦ subst (λ x. (f : Found) × (reach_of nodes x ≡ Settled f)) here root_is_settled
    | inr last ↦
        let long : last.before + last.weight ≡ d = IsLeast-unique J h v (last.before + last.weight) d last.whole hub.least in
        let on : IsOn J h last.node v = IsOn-step J h last.node last.node v last.weight last.before (IsOn-end J h last.node last.before last.least) last.least last.arc last.whole in
        let before : IsCanonical J at h last.node last.before = IsCanonical-inherited J at h last.node v last.before d hub on last.least in
        let settled = canonical_is_settled k last.node last.before (omega (arith, long, positive last.node v last.weight last.arc)) before in
        elim (reach_cases (reach_of nodes v)) [
          | at_none is ↦ absurd (tree.unreached v is (record { node = last.node; weight = last.weight; found = settled.0; settled = settled.1; arc = last.arc }))
          | at_queued q is ↦ absurd (never_queued last.node v last.weight last.before d settled.0 q before hub settled.1 last.arc long is)
          | at_settled f is ↦ (f, is)
        ]
  ]

  canonical_is_labelled : (v d : ℕ) → IsCanonical J at h v d → IsLabelled at h nodes v d
  canonical_is_labelled v d hub =
      let there = canonical_is_settled (suc d) v d (omega arith) hub in
      let root = carries_root v d there.0 hub there.1 in
      record { found = there.0; settled = there.1; root = root.1; long = root.0 }

  labelled_is_canonical : (v d : ℕ) → IsLabelled at h nodes v d → IsCanonical J at h v d
  labelled_is_canonical v d labelled =
      let highest = tree.highest v labelled.found labelled.settled in
      record {
        least = IsLeast-same J h v labelled.found.dist d labelled.long (tree.least v labelled.found labelled.settled);
        highest = λ x on above. omega (arith, highest.above x on, labelled.root);
      }

  pub tree_is_exact : (v d : ℕ) → IsLabelled at h nodes v d ↔ IsCanonical J at h v d
  tree_is_exact v d = (labelled_is_canonical v d, canonical_is_labelled v d)
