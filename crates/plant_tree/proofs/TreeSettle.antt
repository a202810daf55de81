-- The nearest queued node is settled: the tree stays a tree, over the arcs of the nodes settled before.
use Rattle.std.proofs.Common.{◌≡◌, ◌≢◌, inl, inr, ℕ, ◌≤◌, List, get_or-set_other, get_or-set_same, sym, ap, subst, ◌∙◌, arith}
use Rattle.std.proofs.Math.ListN.{set}
use Rattle.std.proofs.lemmas.Bool.{cases_eq}
use Rattle.walk_laws.specs.Least.{IsLeast}
use Rattle.plant_tree.proofs.TreeTypes.{Found, Reach}
use Rattle.frontier.specs.declared.reach.Reach.TheVariants.{Unreached, Queued, Settled}
use Rattle.plant_tree.proofs.TreeFacts.{reach_of, From, IsHighest, IsQueued, IsTree}
use Rattle.plant_tree.proofs.TreeSize.{queued_inside}

-- the arcs that do not leave v
abbrev pub but_from : ℕ → (ℕ → ℕ → ℕ → Type 0) → ℕ → ℕ → ℕ → Type 0
but_from v J y x w = J y x w × (y ≢ v)

-- a node has come one way only
pub settled_once : (r : Reach) (f g : Found) → r ≡ Settled f → r ≡ Settled g → f ≡ g
settled_once r f g a b = let same : Settled f ≡ Settled g = sym a ∙ b in cc

pub not_both : (r : Reach) (f g : Found) → r ≡ Queued f → r ≡ Settled g → ⊥
not_both r f g a b = let same : Queued f ≡ Settled g = sym a ∙ b in cc

pub not_none : (r : Reach) (f : Found) → r ≡ Unreached → r ≡ Queued f → ⊥
not_none r f a b = let same : Unreached ≡ Queued f = sym a ∙ b in cc

pub not_none_settled : (r : Reach) (f : Found) → r ≡ Unreached → r ≡ Settled f → ⊥
not_none_settled r f a b = let same : Unreached ≡ Settled f = sym a ∙ b in cc

module _ (J : ℕ → ℕ → ℕ → Type 0) (at : List ℕ) (h : ℕ) (nodes : List Reach) (tree : IsTree J J at h nodes) (v : ℕ) (f : Found) (queued : reach_of nodes v ≡ Queued f) (nearest : (x : ℕ) (g : Found) → reach_of nodes x ≡ Queued g → f.dist ≤ g.dist) (least : IsLeast J h v f.dist) (highest : IsHighest J at h v f.carried.position) where
  now_at : reach_of (set nodes v (Settled f)) v ≡ Settled f
  now_at = get_or-set_same nodes v (Settled f) Unreached (queued_inside nodes v f queued)

  now_other : (x : ℕ) → x ≢ v → reach_of (set nodes v (Settled f)) x ≡ reach_of nodes x
  now_other x other = get_or-set_other nodes v x (Settled f) Unreached other

  -- what is reached now but isn't settled is another node, and was so before
  was_queued : (x : ℕ) (g : Found) → reach_of (set nodes v (Settled f)) x ≡ Queued g → (x ≢ v) × (reach_of nodes x ≡ Queued g)
  was_queued x g is = elim (cases_eq x v) [
    | inl here ↦ absurd (not_both _ g f is (ap (λ y. reach_of (set nodes v (Settled f)) y) here ∙ now_at))
    | inr other ↦ (other, sym (now_other x other) ∙ is)
  ]

  was_unreached : (x : ℕ) → reach_of (set nodes v (Settled f)) x ≡ Unreached → (x ≢ v) × (reach_of nodes x ≡ Unreached)
  was_unreached x is = elim (cases_eq x v) [
    | inl here ↦ absurd (not_none_settled _ f is (ap (λ y. reach_of (set nodes v (Settled f)) y) here ∙ now_at))
    | inr other ↦ (other, sym (now_other x other) ∙ is)
  ]

  -- a way over a node that was settled before is one now, and the other way round
  before : (x : ℕ) → From (but_from v J) (set nodes v (Settled f)) x → From J nodes x
  before x t = record { node = t.node; weight = t.weight; found = t.found; settled = sym (now_other t.node t.arc.1) ∙ t.settled; arc = t.arc.0 }

  after : (x : ℕ) → From J nodes x → From (but_from v J) (set nodes v (Settled f)) x
  after x s =
      let other : s.node ≢ v = λ here. not_both _ f s.found (ap (λ y. reach_of nodes y) here ∙ queued) s.settled in
      record { node = s.node; weight = s.weight; found = s.found; settled = now_other s.node other ∙ s.settled; arc = (s.arc, other) }

  queued_now : (x : ℕ) (g : Found) → reach_of (set nodes v (Settled f)) x ≡ Queued g → IsQueued (but_from v J) at h (set nodes v (Settled f)) x g
  unfolding before after
  queued_now x g is =
      let q = tree.queued x g (was_queued x g is).1 in
      record {
        shortest = λ t. q.shortest (before x t);
        own = q.own;
        higher = λ t e. q.higher (before x t) e;
        way = elim q.way [ inl root ↦ inl root | inr s ↦ inr (after x s.0, s.1) ];
        carries = elim q.carries [ inl own ↦ inl own | inr s ↦ inr (after x s.0, s.1, s.2) ];
      }

  -- the root is settled from now on
  root_is_settled : (g : Found) → reach_of (set nodes v (Settled f)) h ≡ Queued g → ⊥
  root_is_settled g is =
      let was = was_queued h g is in
      elim (tree.queued v f queued).way [
        | inl root ↦ was.0 (sym root.0)
        | inr s ↦ tree.root_first g s.0.found s.0.node was.1 s.0.settled
      ]

  pub settled_tree : IsTree J (but_from v J) at h (set nodes v (Settled f))
  settled_tree = record {
    least = λ x g is. elim (cases_eq x v) [
      | inl here ↦
          let same : f ≡ g = settled_once _ f g now_at (ap (λ y. reach_of (set nodes v (Settled f)) y) (sym here) ∙ is) in
          let P : ℕ → Type 0 = λ y. IsLeast J h y g.dist in
          let Q : Found → Type 0 = λ k. IsLeast J h v k.dist in
          subst P (sym here) (subst Q same least)
      | inr other ↦ tree.least x g (sym (now_other x other) ∙ is)
    ];
    highest = λ x g is. elim (cases_eq x v) [
      | inl here ↦
          let same : f ≡ g = settled_once _ f g now_at (ap (λ y. reach_of (set nodes v (Settled f)) y) (sym here) ∙ is) in
          let P : ℕ → Type 0 = λ y. IsHighest J at h y g.carried.position in
          let Q : Found → Type 0 = λ k. IsHighest J at h v k.carried.position in
          subst P (sym here) (subst Q same highest)
      | inr other ↦ tree.highest x g (sym (now_other x other) ∙ is)
    ];
    queued = queued_now;
    unreached = λ x is t. tree.unreached x (was_unreached x is).1 (before x t);
    root = λ is. tree.root (was_unreached h is).1;
    root_first = λ g k y is _. root_is_settled g is;
    order = λ y x k g settled is.
        let was = was_queued x g is in
        elim (cases_eq y v) [
          | inl here ↦
              let same : f ≡ k = settled_once _ f k now_at (ap (λ z. reach_of (set nodes v (Settled f)) z) (sym here) ∙ settled) in
              omega (arith, nearest x g was.1, ap (λ (z : Found). z.dist) same)
          | inr other ↦ tree.order y x k g (sym (now_other y other) ∙ settled) was.1
        ];
  }

  -- no settled node is farther than v
  pub settled_before : (y : ℕ) (g : Found) → reach_of (set nodes v (Settled f)) y ≡ Settled g → g.dist ≤ f.dist
  settled_before y g is = elim (cases_eq y v) [
    | inl here ↦
        let same : f ≡ g = settled_once _ f g now_at (ap (λ z. reach_of (set nodes v (Settled f)) z) (sym here) ∙ is) in
        omega (arith, ap (λ (z : Found). z.dist) same)
    | inr other ↦ tree.order y v g f (sym (now_other y other) ∙ is) queued
  ]

  pub root_settled : (g : Found) → reach_of (set nodes v (Settled f)) h ≢ Queued g
  root_settled = root_is_settled

  pub v_settled : reach_of (set nodes v (Settled f)) v ≡ Settled f
  v_settled = now_at
