-- What a shortest-path tree knows of its nodes at each moment, and why the nearest queued node can be settled.
use Rattle.std.proofs.Common.{◌≡◌, ◌≢◌, ◌⊎◌, inl, inr, ℕ, ◌+◌, ◌<◌, ◌≤◌, Bool, true, false, List, get_or, refl, sym, ap, ◌∙◌, arith}
use Rattle.std.proofs.lemmas.Bool.{false≢true}
use Rattle.walk_laws.specs.Walk.{HasWalk}
use Rattle.walk_laws.specs.Least.{IsLeast}
use Rattle.walk_laws.specs.On.{IsOn}
use Rattle.walk_laws.specs.Ranking.{position_of}
use Rattle.walk_laws.proofs.Walks.{HasWalk-none_to, HasWalk-same, HasWalk-after, HasWalk-leaves, Leaving}
use Rattle.walk_laws.proofs.LeastWalks.{IsLeast-unique, IsLeast-same}
use Rattle.walk_laws.proofs.OnWalks.{IsOn-end, IsOn-last, IsOn-step}
use Rattle.plant_tree.proofs.TreeTypes.{Found, Reach}
use Rattle.frontier.specs.declared.reach.Reach.TheVariants.{Unreached, Queued, Settled}

-- what the tree has come to with a node
abbrev pub reach_of : List Reach → ℕ → Reach
reach_of nodes x = get_or nodes x Unreached

-- a settled node, with an arc that was gone along to x
pub record From (K : ℕ → ℕ → ℕ → Type 0) (nodes : List Reach) (x : ℕ) : Type 0 where
  pub node : ℕ
  pub weight : ℕ
  pub found : Found
  pub settled : reach_of nodes node ≡ Settled found
  pub arc : K node x weight

-- how far it is to x by way of such a node
abbrev pub way_length : {K : ℕ → ℕ → ℕ → Type 0} {nodes : List Reach} {x : ℕ} → From K nodes x → ℕ
way_length t = t.found.dist + t.weight

-- m is the position of the highest-ranked node on the shortest walks from h to x
pub record IsHighest (J : ℕ → ℕ → ℕ → Type 0) (at : List ℕ) (h x m : ℕ) : Type 0 where
  pub above : (z : ℕ) → IsOn J h z x → m ≤ position_of at z
  pub some : (z : ℕ) × IsOn J h z x × (m ≡ position_of at z)

-- what was found of a queued node: the best of the ways to it over settled nodes
pub record IsQueued (K : ℕ → ℕ → ℕ → Type 0) (at : List ℕ) (h : ℕ) (nodes : List Reach) (x : ℕ) (f : Found) : Type 0 where
  pub shortest : (t : From K nodes x) → f.dist ≤ t.found.dist + t.weight
  pub own : f.carried.position ≤ position_of at x
  pub higher : (t : From K nodes x) → t.found.dist + t.weight ≡ f.dist → f.carried.position ≤ t.found.carried.position
  pub way : ((x ≡ h) × (f.dist ≡ 0)) ⊎ ((t : From K nodes x) × (t.found.dist + t.weight ≡ f.dist))
  pub carries : (f.carried.position ≡ position_of at x) ⊎ ((t : From K nodes x) × (t.found.dist + t.weight ≡ f.dist) × (f.carried.position ≡ t.found.carried.position))

-- the tree of h, where the arcs K of settled nodes were gone along
pub record IsTree (J K : ℕ → ℕ → ℕ → Type 0) (at : List ℕ) (h : ℕ) (nodes : List Reach) : Type 0 where
  pub least : (x : ℕ) (f : Found) → reach_of nodes x ≡ Settled f → IsLeast J h x f.dist
  pub highest : (x : ℕ) (f : Found) → reach_of nodes x ≡ Settled f → IsHighest J at h x f.carried.position
  pub queued : (x : ℕ) (f : Found) → reach_of nodes x ≡ Queued f → IsQueued K at h nodes x f
  pub unreached : (x : ℕ) → reach_of nodes x ≡ Unreached → From K nodes x → ⊥
  pub root : reach_of nodes h ≢ Unreached
  pub root_first : (f g : Found) (y : ℕ) → reach_of nodes h ≡ Queued f → reach_of nodes y ≡ Settled g → ⊥
  pub order : (y x : ℕ) (g f : Found) → reach_of nodes y ≡ Settled g → reach_of nodes x ≡ Queued f → g.dist ≤ f.dist

-- whether a node is settled
abbrev pub is_settled : Reach → Bool
is_settled Unreached = false
is_settled (Queued f) = false
is_settled (Settled f) = true

-- the three ways to have come with a node
pub data ReachCases (r : Reach) : Type 0 where
  at_none : r ≡ Unreached → ReachCases r
  at_queued : (f : Found) → r ≡ Queued f → ReachCases r
  at_settled : (f : Found) → r ≡ Settled f → ReachCases r

pub reach_cases : (r : Reach) → ReachCases r
reach_cases Unreached = at_none refl
reach_cases (Queued f) = at_queued f refl
reach_cases (Settled f) = at_settled f refl

module _ (J : ℕ → ℕ → ℕ → Type 0) (at : List ℕ) (h : ℕ) (nodes : List Reach) (tree : IsTree J J at h nodes) (v : ℕ) (f : Found) (queued : reach_of nodes v ≡ Queued f) where
  -- some walk is as long as what was found of a queued node
  pub queued_walk : HasWalk J h v f.dist
  queued_walk = elim (tree.queued v f queued).way [
    | inl root ↦ HasWalk-same J h v 0 f.dist (sym root.1) (HasWalk-none_to J h v (sym root.0))
    | inr from ↦
        HasWalk-same J h v (from.0.found.dist + from.0.weight) f.dist from.1
        (HasWalk-after J h from.0.node v from.0.weight from.0.found.dist (tree.least from.0.node from.0.found from.0.settled).walk from.0.arc)
  ]

  -- where that is the least length, it carries a node on a shortest walk
  pub carried_is_on : IsLeast J h v f.dist → (z : ℕ) × IsOn J h z v × (f.carried.position ≡ position_of at z)
  carried_is_on least = elim (tree.queued v f queued).carries [
    | inl own ↦ (v, IsOn-end J h v f.dist least, own)
    | inr from ↦
        let high = (tree.highest from.0.node from.0.found from.0.settled).some in (
          high.0,
          IsOn-step J h high.0 from.0.node v from.0.weight from.0.found.dist high.1 (tree.least from.0.node from.0.found from.0.settled) from.0.arc
              (IsLeast-same J h v f.dist (from.0.found.dist + from.0.weight) (sym from.1) least),
          from.2 ∙ high.2,
        )
  ]

module _ (J : ℕ → ℕ → ℕ → Type 0) (at : List ℕ) (h : ℕ) (nodes : List Reach) (tree : IsTree J J at h nodes) (v : ℕ) (f : Found) (queued : reach_of nodes v ≡ Queued f) (nearest : (x : ℕ) (g : Found) → reach_of nodes x ≡ Queued g → f.dist ≤ g.dist) where
  -- a walk that leaves the settled nodes is as long as the way to the nearest queued one
  leaving_is_far : (e : ℕ) → Leaving J (λ x. is_settled (reach_of nodes x)) h e → f.dist ≤ e
  leaving_is_far e away =
      elim (reach_cases (reach_of nodes away.from)) [
        | at_none is ↦ absurd (false≢true (sym (ap is_settled is) ∙ away.inside))
        | at_queued g is ↦ absurd (false≢true (sym (ap is_settled is) ∙ away.inside))
        | at_settled g is ↦
            let way : From J nodes away.to = record { node = away.from; weight = away.weight; found = g; settled = is; arc = away.arc } in
            let least : g.dist ≤ away.before = (tree.least away.from g is).none_shorter away.before away.walk in
            elim (reach_cases (reach_of nodes away.to)) [
              | at_none none ↦ absurd (tree.unreached away.to none way)
              | at_queued q to_queued ↦ omega (arith, (tree.queued away.to q to_queued).shortest way, nearest away.to q to_queued, away.long)
              | at_settled s to_settled ↦ absurd (false≢true (sym away.outside ∙ ap is_settled to_settled))
            ]
      ]

  -- the root is settled, or it is the nearest queued node
  root_cases : (is_settled (reach_of nodes h) ≡ true) ⊎ (f.dist ≡ 0)
  root_cases =
      elim (reach_cases (reach_of nodes h)) [
        | at_none none ↦ absurd (tree.root none)
        | at_queued g is ↦ elim (tree.queued v f queued).way [
          | inl root ↦ inr root.1
          | inr from ↦ absurd (tree.root_first g from.0.found from.0.node is from.0.settled)
        ]
        | at_settled g is ↦ inl (ap is_settled is)
      ]

  -- no node that isn't settled is nearer than the nearest queued one
  unsettled_is_far : (x e : ℕ) → is_settled (reach_of nodes x) ≡ false → HasWalk J h x e → f.dist ≤ e
  unsettled_is_far x e outside walk =
      elim root_cases [
        | inl settled ↦ leaving_is_far e (HasWalk-leaves J (λ y. is_settled (reach_of nodes y)) h x e walk settled outside)
        | inr zero_dist ↦ omega arith
      ]

  -- so its distance is the least
  pub next_is_least : IsLeast J h v f.dist
  next_is_least = record {
    walk = queued_walk J at h nodes tree v f queued;
    none_shorter = λ e walk. unsettled_is_far v e (ap is_settled queued) walk;
  }

  -- a node with a shortest walk that is shorter is settled at that length
  nearer_is_settled : (x e : ℕ) → IsLeast J h x e → e < f.dist → (g : Found) × (reach_of nodes x ≡ Settled g) × (g.dist ≡ e)
  nearer_is_settled x e least nearer =
      elim (reach_cases (reach_of nodes x)) [
        | at_none is ↦ absurd (omega (arith, unsettled_is_far x e (ap is_settled is) least.walk))
        | at_queued g is ↦ absurd (omega (arith, unsettled_is_far x e (ap is_settled is) least.walk))
        | at_settled g is ↦ (g, is, IsLeast-unique J h x g.dist e (tree.least x g is) least)
      ]

  -- and it carries the highest-ranked node of its shortest walks
  pub next_is_highest : ((x y w : ℕ) → J x y w → 1 ≤ w) → IsHighest J at h v f.carried.position
  next_is_highest positive = record {
    above = λ z on. elim (IsOn-last J h z v on) [
      | inl here ↦ omega (arith, (tree.queued v f queued).own, ap (position_of at) here)
      | inr last ↦
          let total : last.before + last.weight ≡ f.dist = IsLeast-unique J h v (last.before + last.weight) f.dist last.whole next_is_least in
          let settled = nearer_is_settled last.node last.before last.least (omega (arith, total, positive last.node v last.weight last.arc)) in
          let way : From J nodes v = record { node = last.node; weight = last.weight; found = settled.0; settled = settled.1; arc = last.arc } in
          let carried = (tree.queued v f queued).higher way (omega (arith, total, settled.2)) in
          omega (arith, carried, (tree.highest last.node settled.0 settled.1).above z last.on)
    ];
    some = carried_is_on J at h nodes tree v f queued next_is_least;
  }
