-- An arc of a settled node is gone along: the tree stays a tree, over that arc too.
use Rattle.std.proofs.Common.{◌≡◌, ◌≢◌, ◌⊎◌, inl, inr, ℕ, ◌+◌, ◌<◌, ◌≤◌, min, List, length, get_or-set_other, get_or-set_same, refl, sym, ap, subst, ◌∙◌, arith}
use Rattle.std.proofs.lemmas.Bool.{cases_eq, cases_lt}
use Rattle.walk_laws.specs.declared.graph.Arc.{Arc}
use Rattle.walk_laws.specs.Ranking.{position_of}
use Rattle.plant_tree.specs.Relaxed.{offer_of, relaxed}
use Rattle.plant_tree.proofs.TreeSteps.{better, better_cases, shorter, as_long, longer, offered}
use Rattle.plant_tree.proofs.TreeTypes.{Found, Reach}
use Rattle.frontier.specs.declared.reach.Reach.TheVariants.{Unreached, Queued, Settled}
use Rattle.plant_tree.proofs.TreeFacts.{reach_of, From, IsQueued, IsTree, reach_cases, at_none, at_queued, at_settled}
use Rattle.plant_tree.proofs.TreeSettle.{settled_once, not_both}

-- the arcs K, and the arc a of v
abbrev pub and_arc : ℕ → Arc → (ℕ → ℕ → ℕ → Type 0) → ℕ → ℕ → ℕ → Type 0
and_arc v a K y x w = K y x w ⊎ ((y ≡ v) × (x ≡ a.to) × (w ≡ a.w))

-- the less of two numbers is one of them
min_cases : (a b : ℕ) → (min a b ≡ a) ⊎ (min a b ≡ b)
min_cases a b = elim (cases_lt a b) [ inl less ↦ inl (omega arith) | inr more ↦ inr (omega arith) ]

module _ (J K : ℕ → ℕ → ℕ → Type 0) (at : List ℕ) (h : ℕ) (nodes : List Reach) (tree : IsTree J K at h nodes) (v : ℕ) (f : Found) (settled : reach_of nodes v ≡ Settled f) (last : (y : ℕ) (g : Found) → reach_of nodes y ≡ Settled g → g.dist ≤ f.dist) (root_done : (g : Found) → reach_of nodes h ≢ Queued g) (a : Arc) (inside : a.to < length nodes) where
  -- the walk that is offered
  abbrev offer : Found
  offer = offer_of at f a

  abbrev new : List Reach
  new = relaxed at f a nodes

  now_at : reach_of (relaxed at f a nodes) a.to ≡ offered (reach_of nodes a.to) (offer_of at f a)
  now_at = get_or-set_same nodes a.to _ Unreached inside

  now_other : (x : ℕ) → x ≢ a.to → reach_of (relaxed at f a nodes) x ≡ reach_of nodes x
  now_other x other = get_or-set_other nodes a.to x _ Unreached other

  now_here : (x : ℕ) → x ≡ a.to → reach_of (relaxed at f a nodes) x ≡ offered (reach_of nodes a.to) (offer_of at f a)
  now_here x here = ap (λ y. reach_of (relaxed at f a nodes) y) here ∙ now_at

  -- what is settled stays as it is, and nothing else is settled
  pub stays_settled : (y : ℕ) (g : Found) → reach_of nodes y ≡ Settled g → reach_of (relaxed at f a nodes) y ≡ Settled g
  stays_settled y g is = elim (cases_eq y a.to) [
    | inl here ↦ now_here y here ∙ ap (λ r. offered r (offer_of at f a)) (ap (λ z. reach_of nodes z) (sym here) ∙ is)
    | inr other ↦ now_other y other ∙ is
  ]

  offered_settled : (r : Reach) (g : Found) → offered r (offer_of at f a) ≡ Settled g → r ≡ Settled g
  offered_settled Unreached g is = absurd cc
  offered_settled (Queued q) g is = absurd cc
  offered_settled (Settled s) g is = is

  pub was_settled : (y : ℕ) (g : Found) → reach_of (relaxed at f a nodes) y ≡ Settled g → reach_of nodes y ≡ Settled g
  was_settled y g is = elim (cases_eq y a.to) [
    | inl here ↦ ap (λ z. reach_of nodes z) here ∙ offered_settled (reach_of nodes a.to) g (sym (now_here y here) ∙ is)
    | inr other ↦ sym (now_other y other) ∙ is
  ]

  -- ways over the arcs of before, and the way over this arc
  abbrev kept : (x : ℕ) → From K nodes x → From (and_arc v a K) (relaxed at f a nodes) x
  kept x s = record { node = s.node; weight = s.weight; found = s.found; settled = stays_settled s.node s.found s.settled; arc = inl s.arc }

  abbrev old : (x : ℕ) (t : From (and_arc v a K) (relaxed at f a nodes) x) → K t.node x t.weight → From K nodes x
  old x t k = record { node = t.node; weight = t.weight; found = t.found; settled = was_settled t.node t.found t.settled; arc = k }

  abbrev this_way : From (and_arc v a K) (relaxed at f a nodes) a.to
  this_way = record { node = v; weight = a.w; found = f; settled = stays_settled v f settled; arc = inr (refl, refl, refl) }

  this_found : (x : ℕ) (t : From (and_arc v a K) (relaxed at f a nodes) x) → t.node ≡ v → f ≡ t.found
  this_found x t is = settled_once (reach_of nodes v) f t.found settled (ap (λ y. reach_of nodes y) (sym is) ∙ was_settled t.node t.found t.settled)

  this_length : (x : ℕ) (t : From (and_arc v a K) (relaxed at f a nodes) x) → t.node ≡ v → t.weight ≡ a.w → t.found.dist + t.weight ≡ f.dist + a.w
  this_length x t node weight = let same = ap (λ (g : Found). g.dist) (this_found x t node) in omega (arith, same, weight)

  -- another queued node than the one that the arc leads to
  queued_other : (x : ℕ) (q : Found) → x ≢ a.to → IsQueued K at h nodes x q → IsQueued (and_arc v a K) at h (relaxed at f a nodes) x q
  queued_other x q other was = record {
    shortest = λ t. elim t.arc [ inl k ↦ was.shortest (old x t k) | inr this ↦ absurd (other this.1) ];
    own = was.own;
    higher = λ t e. elim t.arc [ inl k ↦ was.higher (old x t k) e | inr this ↦ absurd (other this.1) ];
    way = elim was.way [ inl root ↦ inl root | inr s ↦ inr (kept x s.0, s.1) ];
    carries = elim was.carries [ inl own ↦ inl own | inr s ↦ inr (kept x s.0, s.1, s.2) ];
  }

  -- the node that the arc leads to, where it was not reached
  first_offer : reach_of nodes a.to ≡ Unreached → IsQueued (and_arc v a K) at h (relaxed at f a nodes) a.to (offer_of at f a)
  first_offer none = record {
    shortest = λ t. elim t.arc [ inl k ↦ absurd (tree.unreached a.to none (old a.to t k)) | inr this ↦ omega (arith, this_length a.to t this.0 this.2) ];
    own = omega arith;
    higher = λ t e. elim t.arc [
      | inl k ↦ absurd (tree.unreached a.to none (old a.to t k))
      | inr this ↦ let same = ap (λ (g : Found). g.carried.position) (this_found a.to t this.0) in omega (arith, same)
    ];
    way = inr (this_way, refl);
    carries = elim (min_cases f.carried.position (position_of at a.to)) [ inl from ↦ inr (this_way, refl, from) | inr own ↦ inl own ];
  }

  -- the same where it was queued: the offer is shorter, as long, or longer
  shorter_offer : (q : Found) → IsQueued K at h nodes a.to q → f.dist + a.w < q.dist → IsQueued (and_arc v a K) at h (relaxed at f a nodes) a.to (offer_of at f a)
  shorter_offer q was less = record {
    shortest = λ t. elim t.arc [ inl k ↦ omega (arith, was.shortest (old a.to t k)) | inr this ↦ omega (arith, this_length a.to t this.0 this.2) ];
    own = omega arith;
    higher = λ t e. elim t.arc [
      | inl k ↦ absurd (omega (arith, was.shortest (old a.to t k), e))
      | inr this ↦ let same = ap (λ (g : Found). g.carried.position) (this_found a.to t this.0) in omega (arith, same)
    ];
    way = inr (this_way, refl);
    carries = elim (min_cases f.carried.position (position_of at a.to)) [ inl from ↦ inr (this_way, refl, from) | inr own ↦ inl own ];
  }

  equal_offer : (q : Found) → IsQueued K at h nodes a.to q → f.dist + a.w ≡ q.dist → IsQueued (and_arc v a K) at h (relaxed at f a nodes) a.to (record { dist = q.dist; carried = record { position = min q.carried.position (min f.carried.position (position_of at a.to)) } })
  equal_offer q was same_dist = record {
    shortest = λ t. elim t.arc [ inl k ↦ was.shortest (old a.to t k) | inr this ↦ omega (arith, this_length a.to t this.0 this.2) ];
    own = omega (arith, was.own);
    higher = λ t e. elim t.arc [
      | inl k ↦ omega (arith, was.higher (old a.to t k) e)
      | inr this ↦ let same = ap (λ (g : Found). g.carried.position) (this_found a.to t this.0) in omega (arith, same)
    ];
    way = inr (this_way, same_dist);
    carries = elim (min_cases q.carried.position (min f.carried.position (position_of at a.to))) [
      | inl before ↦ elim was.carries [ inl own ↦ inl (before ∙ own) | inr s ↦ inr (kept a.to s.0, s.1, before ∙ s.2) ]
      | inr by_offer ↦ elim (min_cases f.carried.position (position_of at a.to)) [
        | inl from ↦ inr (this_way, same_dist, by_offer ∙ from)
        | inr own ↦ inl (by_offer ∙ own)
      ]
    ];
  }

  longer_offer : (q : Found) → IsQueued K at h nodes a.to q → q.dist < f.dist + a.w → IsQueued (and_arc v a K) at h (relaxed at f a nodes) a.to q
  longer_offer q was more = record {
    shortest = λ t. elim t.arc [ inl k ↦ was.shortest (old a.to t k) | inr this ↦ omega (arith, this_length a.to t this.0 this.2) ];
    own = was.own;
    higher = λ t e. elim t.arc [ inl k ↦ was.higher (old a.to t k) e | inr this ↦ absurd (omega (arith, this_length a.to t this.0 this.2, e)) ];
    way = elim was.way [ inl root ↦ inl root | inr s ↦ inr (kept a.to s.0, s.1) ];
    carries = elim was.carries [ inl own ↦ inl own | inr s ↦ inr (kept a.to s.0, s.1, s.2) ];
  }

  better_offer : (q : Found) → IsQueued K at h nodes a.to q → IsQueued (and_arc v a K) at h (relaxed at f a nodes) a.to (better q (offer_of at f a))
  better_offer q was =
      let P : Found → Type 0 = λ k. IsQueued (and_arc v a K) at h (relaxed at f a nodes) a.to k in
      elim (better_cases q (offer_of at f a)) [
        | shorter less is ↦ subst P (sym is) (shorter_offer q was less)
        | as_long same is ↦ subst P (sym is) (equal_offer q was same)
        | longer more is ↦ subst P (sym is) (longer_offer q was more)
      ]

  -- what is queued now
  queued_here : (r : Reach) → reach_of nodes a.to ≡ r → (g : Found) → offered r (offer_of at f a) ≡ Queued g → IsQueued (and_arc v a K) at h (relaxed at f a nodes) a.to g
  queued_here Unreached was g is =
      let same : offer_of at f a ≡ g = cc in
      let P : Found → Type 0 = λ k. IsQueued (and_arc v a K) at h (relaxed at f a nodes) a.to k in
      subst P same (first_offer was)
  queued_here (Queued q) was g is =
      let same : better q (offer_of at f a) ≡ g = cc in
      let P : Found → Type 0 = λ k. IsQueued (and_arc v a K) at h (relaxed at f a nodes) a.to k in
      subst P same (better_offer q (tree.queued a.to q was))
  queued_here (Settled s) was g is = absurd cc

  queued_now : (x : ℕ) (g : Found) → reach_of (relaxed at f a nodes) x ≡ Queued g → IsQueued (and_arc v a K) at h (relaxed at f a nodes) x g
  queued_now x g is = elim (cases_eq x a.to) [
    | inl here ↦
        let P : ℕ → Type 0 = λ y. IsQueued (and_arc v a K) at h (relaxed at f a nodes) y g in
        subst P (sym here) (queued_here (reach_of nodes a.to) refl g (sym (now_here x here) ∙ is))
    | inr other ↦ queued_other x g other (tree.queued x g (sym (now_other x other) ∙ is))
  ]

  -- what is not reached now
  offered_none : (r : Reach) → offered r (offer_of at f a) ≡ Unreached → ⊥
  offered_none Unreached is = cc
  offered_none (Queued q) is = cc
  offered_none (Settled s) is = cc

  unreached_now : (x : ℕ) → reach_of (relaxed at f a nodes) x ≡ Unreached → (x ≢ a.to) × (reach_of nodes x ≡ Unreached)
  unreached_now x is = elim (cases_eq x a.to) [
    | inl here ↦ absurd (offered_none (reach_of nodes a.to) (sym (now_here x here) ∙ is))
    | inr other ↦ (other, sym (now_other x other) ∙ is)
  ]

  -- a root that isn't queued doesn't become so
  pub root_stays : (g : Found) → reach_of (relaxed at f a nodes) h ≢ Queued g
  root_stays g is = elim (reach_cases (reach_of nodes h)) [
    | at_none none ↦ tree.root none
    | at_queued q was ↦ root_done q was
    | at_settled s was ↦ not_both _ g s is (stays_settled h s was)
  ]

  -- each queued node is at least as far as v
  far_enough : (x : ℕ) (g : Found) → reach_of (relaxed at f a nodes) x ≡ Queued g → (y : ℕ) (k : Found) → reach_of nodes y ≡ Settled k → k.dist ≤ g.dist
  far_enough x g is y k was = elim (cases_eq x a.to) [
    | inl here ↦ far_here (reach_of nodes a.to) refl (sym (now_here x here) ∙ is)
    | inr other ↦ tree.order y x k g was (sym (now_other x other) ∙ is)
  ]
    where
      far_here : (r : Reach) → reach_of nodes a.to ≡ r → offered r (offer_of at f a) ≡ Queued g → k.dist ≤ g.dist
      far_here Unreached none e = let same : offer_of at f a ≡ g = cc in omega (arith, last y k was, ap (λ (z : Found). z.dist) same)
      far_here (Queued q) queued e =
          let same : better q (offer_of at f a) ≡ g = cc in
          let dist = ap (λ (z : Found). z.dist) same in
          elim (better_cases q (offer_of at f a)) [
            | shorter less e ↦ omega (arith, last y k was, dist, ap (λ (z : Found). z.dist) e)
            | as_long equal e ↦ omega (arith, tree.order y a.to k q was queued, dist, ap (λ (z : Found). z.dist) e)
            | longer more e ↦ omega (arith, tree.order y a.to k q was queued, dist, ap (λ (z : Found). z.dist) e)
          ]
      far_here (Settled s) settled_there e = absurd cc

  pub relaxed_tree : IsTree J (and_arc v a K) at h (relaxed at f a nodes)
  relaxed_tree = record {
    least = λ x g is. tree.least x g (was_settled x g is);
    highest = λ x g is. tree.highest x g (was_settled x g is);
    queued = queued_now;
    unreached = λ x is t. let was = unreached_now x is in elim t.arc [ inl k ↦ tree.unreached x was.1 (old x t k) | inr this ↦ was.0 this.1 ];
    root = λ is. tree.root (unreached_now h is).1;
    root_first = λ g k y is _. root_stays g is;
    order = λ y x k g settled_y is. far_enough x g is y k (was_settled y k settled_y);
  }
