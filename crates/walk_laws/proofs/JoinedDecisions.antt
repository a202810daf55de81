-- The decisions, for the edges of a list.
use Rattle.std.proofs.Common.{◌⊎◌, ◌↔◌, ℕ, ◌+◌, ◌≤◌, List, length, All, Contains, Option, Some, None, inl, inr, arith}
use Rattle.walk_laws.specs.declared.graph.Edge.{Edge}
use Rattle.walk_laws.specs.Graph.{arcs_at}
use Rattle.walk_laws.specs.Joined.{Joined}
use Rattle.walk_laws.specs.Walk.{HasWalk}
use Rattle.walk_laws.specs.Least.{IsLeast, AreApart}
use Rattle.walk_laws.specs.On.{IsOn}
use Rattle.walk_laws.specs.Top.{IsTop}
use Rattle.walk_laws.specs.Canonical.{IsCanonical}
use Rattle.walk_laws.specs.Cover.{CoveringHub}
use Rattle.walk_laws.specs.Answer.{IsWalkAnswer}
use Rattle.walk_laws.specs.Ranking.{IsRanking}
use Rattle.walk_laws.proofs.Arcs.{Joined-from_arcs_at, Contains-arcs_at}
use Rattle.walk_laws.proofs.JoinedEdges.{Joined-sym, Joined-positive}
use Rattle.walk_laws.proofs.Decisions.{HasWalk-decided, IsLeast-exists, IsOn-decided}
use Rattle.walk_laws.proofs.LeastWalks.{IsLeast-unique}
use Rattle.walk_laws.proofs.OnWalks.{OnParts-from_on}
use Rattle.walk_laws.proofs.CanonicalHubs.{IsCanonical-no_cover}
use Rattle.walk_laws.proofs.FirstShortest.{IsFirstShortest-exists}
use Rattle.walk_laws.proofs.Reaching.{HasWalk-or_apart}
use Rattle.walk_laws.proofs.Tops.{IsTop-exists, IsCanonical-or_cover}

-- the arcs at a node lead to it from where it is joined
pub Joined-arcs_at : (edges : List Edge) (v t w : ℕ) → Contains (arcs_at edges v) (record { to = t; w = w }) ↔ Joined edges t v w
Joined-arcs_at edges v t w =
    (λ h. Joined-sym edges v t w (Joined-from_arcs_at edges v t w h), λ h. Contains-arcs_at edges v t w (Joined-sym edges t v w h))

module _ (edges : List Edge) (weights : All (λ e. 1 ≤ e.w) edges) where
  pub HasWalk-joined_decided : (u v d : ℕ) → HasWalk (Joined edges) u v d ⊎ (HasWalk (Joined edges) u v d → ⊥)
  HasWalk-joined_decided = HasWalk-decided (Joined edges) (arcs_at edges) (Joined-arcs_at edges) (Joined-positive edges weights)

  pub IsLeast-joined_exists : (u v d : ℕ) → HasWalk (Joined edges) u v d → (e : ℕ) × IsLeast (Joined edges) u v e
  IsLeast-joined_exists = IsLeast-exists (Joined edges) (arcs_at edges) (Joined-arcs_at edges) (Joined-positive edges weights)

  -- two nodes have a least length, or are apart
  pub IsLeast-or_apart : (u v : ℕ) → ((d : ℕ) × IsLeast (Joined edges) u v d) ⊎ AreApart (Joined edges) u v
  IsLeast-or_apart u v =
      elim (HasWalk-or_apart edges u v) [
        | inl walk ↦ inl (IsLeast-joined_exists u v walk.0 walk.1)
        | inr apart ↦ inr apart
      ]

  -- whether a node is on a shortest walk, also where none leads
  pub IsOn-joined_decided : (u x v : ℕ) → IsOn (Joined edges) u x v ⊎ (IsOn (Joined edges) u x v → ⊥)
  IsOn-joined_decided u x v =
      elim (IsLeast-or_apart u v) [
        | inl least ↦ IsOn-decided (Joined edges) (arcs_at edges) (Joined-arcs_at edges) (Joined-positive edges weights) u x v least.0 least.1
        | inr apart ↦ inr (λ on. let p = OnParts-from_on (Joined edges) u x v on in apart (p.before + p.after) p.whole.walk)
      ]

  -- what a pair is answered where a walk is asked for
  pub IsWalkAnswer-exists : (u v : ℕ) → (answer : Option (ℕ × List ℕ)) × IsWalkAnswer (Joined edges) u v answer
  IsWalkAnswer-exists u v =
      elim (IsLeast-or_apart u v) [
        | inr apart ↦ (None, apart)
        | inl least ↦
            let first = IsFirstShortest-exists (Joined edges) (Joined-positive edges weights) (arcs_at edges) (λ x t w. (Joined-from_arcs_at edges x t w, Contains-arcs_at edges x t w)) HasWalk-joined_decided u v least.0 least.1 in
            (Some (least.0, first.0), first.1)
      ]

  module _ (at : List ℕ) (ranking : IsRanking at) where
    pub IsTop-joined_exists : (u v d : ℕ) → 1 ≤ u → u ≤ length at → IsLeast (Joined edges) u v d → (x : ℕ) × IsTop (Joined edges) at u v x
    IsTop-joined_exists u v d from_one up_to_n = IsTop-exists (Joined edges) at ranking u v d from_one up_to_n (λ x. IsOn-joined_decided u x v)

    -- a walk from h leads to a node of which h is a hub, or a hub of both covers it
    pub IsCanonical-or_joined_cover : (h v d : ℕ) → 1 ≤ h → h ≤ length at → HasWalk (Joined edges) h v d → ((e : ℕ) × (e ≤ d) × IsCanonical (Joined edges) at h v e) ⊎ CoveringHub (Joined edges) at h v d
    IsCanonical-or_joined_cover h v d from_one up_to_n walk =
        let least = IsLeast-joined_exists h v d walk in
        elim (IsCanonical-or_cover (Joined edges) at ranking (Joined-sym edges) h v d least.0 from_one up_to_n (λ x. IsOn-joined_decided h x v) least.1 walk) [
          | inl hub ↦ inl (least.0, least.1.none_shorter d walk, hub)
          | inr cover ↦ inr cover
        ]

    -- whether h is a hub of v, and at which distance
    pub IsCanonical-joined_decided : (h v : ℕ) → 1 ≤ h → h ≤ length at → ((d : ℕ) × IsCanonical (Joined edges) at h v d) ⊎ ((d : ℕ) → IsCanonical (Joined edges) at h v d → ⊥)
    IsCanonical-joined_decided h v from_one up_to_n =
        elim (HasWalk-or_apart edges h v) [
          | inr apart ↦ inr (λ d hub. apart d hub.least.walk)
          | inl walk ↦ elim (IsCanonical-or_joined_cover h v walk.0 from_one up_to_n walk.1) [
            | inl hub ↦ inl (hub.0, hub.2)
            | inr cover ↦ inr (λ d hub. IsCanonical-no_cover (Joined edges) at (Joined-sym edges) h v cover.hub d cover.before cover.after hub cover.above cover.to_start.least.walk cover.to_end.least.walk (omega (arith, IsLeast-unique (Joined edges) h v d (cover.before + cover.after) hub.least cover.least)))
          ]
        ]
