-- Of the hubs that are too far for an index there is a first one, or there is none; and one first one alone.
use Rattle.std.proofs.Common.{◌≡◌, ◌⊎◌, ℕ, suc, ◌^◌, ◌<◌, ◌≤◌, List, length, get_or, refl, sym, ap, ap₂, subst, ◌∙◌, inl, inr, arith}
use Rattle.std.specs.Prelude.{Option, Some, None}
use Rattle.std.proofs.lemmas.Bool.{cases_lt}
use Rattle.walk_laws.specs.declared.graph.Edge.{Edge}
use Rattle.walk_laws.specs.Graph.{IsGraph}
use Rattle.walk_laws.specs.Joined.{Joined}
use Rattle.walk_laws.specs.Overflow.{IsFirstTooFar, IsTooFar}
use Rattle.walk_laws.specs.Ranking.{IsRanking, position_of}
use Rattle.walk_laws.proofs.JoinedDecisions.{IsCanonical-joined_decided}
use Rattle.walk_laws.proofs.JoinedEdges.{IsEdge-joined, weights_of_edges}
use Rattle.walk_laws.proofs.LeastWalks.{IsLeast-unique}
use Rattle.walk_laws.proofs.Positions.{get_or-position, position-get_or, position-lt}
use Rattle.walk_laws.proofs.Search.{LeastNumber, LeastNumber-below, LeastNumber-exists}
use Rattle.walk_laws.proofs.ShortWalks.{HasWalk-node}
use Rattle.walk_laws.proofs.Walks.{HasWalk-first}
use Rattle.chl_answers.specs.Commands.{HubOf, TellsOverflow}

module _ (n : ℕ) (edges : List Edge) (at : List ℕ) (graph : IsGraph n edges) where
  -- a hub that is too far is a node, and so is the node that it is too far from
  record AreNodes (h v : ℕ) : Type 0 where
    pub hub_from_one : 1 ≤ h
    pub hub_to_n : h ≤ n
    pub node_from_one : 1 ≤ v
    pub node_to_n : v ≤ n

  nodes_of_far : (h v : ℕ) → IsTooFar (Joined edges) at h v → AreNodes h v
  nodes_of_far h v far =
      elim (HasWalk-first (Joined edges) h v far.dist far.canonical.least.walk) [
        | inl none ↦ absurd (omega (arith, far.far, none.1))
        | inr step ↦
            let edge = IsEdge-joined n edges h step.node step.weight graph.edge step.arc in
            let node = HasWalk-node n edges graph.edge h v far.dist edge.from_one edge.up_to_n far.canonical.least.walk in
            record { hub_from_one = edge.from_one; hub_to_n = edge.up_to_n; node_from_one = node.0; node_to_n = node.1 }
      ]

  module _ (ranking : IsRanking at) (size : length at ≡ n) where
    -- a node stands at its position
    there : (h : ℕ) → 1 ≤ h → h ≤ n → get_or at (position_of at h) 0 ≡ h
    there h from_one to_n = get_or-position at h 0 (position-lt at h ranking from_one (omega (arith, size)))

    -- two firsts are one
    one_first : (h v k w : ℕ) → IsFirstTooFar (Joined edges) at h v → IsFirstTooFar (Joined edges) at k w → (v ≡ w) × (h ≡ k)
    one_first h v k w one other =
        elim (one.first k w other.there) [
          | inl less ↦ elim (other.first h v one.there) [
            | inl more ↦ absurd (omega (arith, less, more))
            | inr same ↦ absurd (omega (arith, less, same.0))
          ]
          | inr same ↦ elim (other.first h v one.there) [
            | inl less ↦ absurd (omega (arith, less, same.0))
            | inr back ↦
                let hub = nodes_of_far h v one.there in
                let also = nodes_of_far k w other.there in
                let place : position_of at h ≡ position_of at k = omega (arith, same.1, back.1) in
                (same.0, sym (there h hub.hub_from_one hub.hub_to_n) ∙ ap (λ p. get_or at p 0) place ∙ there k also.hub_from_one also.hub_to_n)
          ]
        ]

    pub overflow_once : (a b : Option HubOf) → TellsOverflow (Joined edges) at a → TellsOverflow (Joined edges) at b → a ≡ b
    overflow_once None None one other = refl
    overflow_once None (Some far) one other = absurd (one (far.hub, far.v, other.there))
    overflow_once (Some far) None one other = absurd (other (far.hub, far.v, one.there))
    overflow_once (Some far) (Some also) one other =
        let same = one_first far.hub far.v also.hub also.v one other in
        ap₂ (λ v h. Some (record { v = v; hub = h })) same.0 same.1

    -- the hub at a position is too far from a node
    abbrev IsFarAt : ℕ → ℕ → Type 0
    IsFarAt v p = (p < length at) × IsTooFar (Joined edges) at (get_or at p 0) v

    far_decided : (v p : ℕ) → IsFarAt v p ⊎ (IsFarAt v p → ⊥)
    far_decided v p =
        elim (cases_lt p (length at)) [
          | inr past ↦ inr (λ far. omega (arith, past, far.0))
          | inl place ↦
              let node = ranking.node p 0 place in
              elim (IsCanonical-joined_decided edges (weights_of_edges n edges graph.edge) at ranking (get_or at p 0) v node.0 node.1) [
                | inr none ↦ inr (λ far. none far.1.dist far.1.canonical)
                | inl hub ↦ elim (cases_lt hub.0 (2 ^ 64)) [
                  | inl near ↦ inr (λ far. omega (arith, near, far.1.far, IsLeast-unique (Joined edges) (get_or at p 0) v hub.0 far.1.dist hub.1.least far.1.canonical.least))
                  | inr far ↦ inl (place, record { dist = hub.0; canonical = hub.1; far = far })
                ]
              ]
        ]

    -- some hub is too far from a node
    abbrev HasFar : ℕ → Type 0
    HasFar v = (p : ℕ) × IsFarAt v p

    has_far_decided : (v : ℕ) → HasFar v ⊎ (HasFar v → ⊥)
    has_far_decided v =
        elim (LeastNumber-below (IsFarAt v) (far_decided v) (length at)) [
          | inl least ↦ inl (least.number, least.holds)
          | inr none ↦ inr (λ far. none far.0 far.1.0 far.1)
        ]

    -- a hub that is too far is at its position
    far_at_position : (h v : ℕ) → IsTooFar (Joined edges) at h v → IsFarAt v (position_of at h)
    far_at_position h v far =
        let nodes = nodes_of_far h v far in (
          position-lt at h ranking nodes.hub_from_one (omega (arith, size, nodes.hub_to_n)),
          subst (λ x. IsTooFar (Joined edges) at x v) (sym (there h nodes.hub_from_one nodes.hub_to_n)) far,
        )

    -- the first position for the first node
    first_at : (v : LeastNumber HasFar) → LeastNumber (IsFarAt v.number) → (far : Option HubOf) × TellsOverflow (Joined edges) at far
    first_at v p = (
      Some (record { v = v.number; hub = get_or at p.number 0 }),
      record { there = p.holds.1; first = first },
    )
      where
        first : (k w : ℕ) → IsTooFar (Joined edges) at k w → (v.number < w) ⊎ ((v.number ≡ w) × (position_of at (get_or at p.number 0) ≤ position_of at k))
        first k w far =
            let at_place = far_at_position k w far in
            let no_later : v.number ≤ w = v.least w (position_of at k, at_place) in
            elim (cases_lt v.number w) [
              | inl before ↦ inl before
              | inr not_before ↦
                  let same : v.number ≡ w = omega (arith, no_later, not_before) in
                  let least : p.number ≤ position_of at k = p.least (position_of at k) (subst (λ x. IsFarAt x (position_of at k)) (sym same) at_place) in
                  inr (same, omega (arith, least, position-get_or at p.number 0 ranking.once p.holds.0))
            ]

    pub overflow_exists : (far : Option HubOf) × TellsOverflow (Joined edges) at far
    overflow_exists =
        elim (LeastNumber-below HasFar has_far_decided (suc n)) [
          | inl v ↦ first_at v (LeastNumber-exists (IsFarAt v.number) (far_decided v.number) v.holds.0 v.holds.1)
          | inr none ↦ (
            None,
            λ overflow.
                let far = overflow.2 in
                none overflow.1 (omega (arith, (nodes_of_far overflow.0 overflow.1 far).node_to_n)) (position_of at overflow.0, far_at_position overflow.0 overflow.1 far),
          )
        ]
