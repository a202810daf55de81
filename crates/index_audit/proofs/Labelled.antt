-- Nothing is wrong with the entries of the canonical hub labelling.
use Rattle.std.proofs.Common.{◌≡◌, ℕ, ◌+◌, ◌≤◌, List, All, Contains, length, slice_get, Some, sym, subst, ◌∙◌, inl, inr, arith}
use Rattle.std.proofs.lemmas.Bool.{cases_eq}
use Rattle.std.proofs.lemmas.Option.{same_Some}
use Rattle.walk_laws.specs.declared.graph.Edge.{Edge}
use Rattle.walk_laws.specs.declared.entry.Entry.{Entry}
use Rattle.walk_laws.specs.Graph.{IsEdge}
use Rattle.walk_laws.specs.Joined.{Joined}
use Rattle.walk_laws.specs.Ranking.{IsRanking, position_of}
use Rattle.walk_laws.specs.Canonical.{IsCanonical}
use Rattle.walk_laws.specs.Labelling.{label_row, IsChl}
use Rattle.walk_laws.proofs.Positions.{position-lt}
use Rattle.walk_laws.proofs.JoinedEdges.{Joined-sym, IsEdge-joined, weights_of_edges}
use Rattle.walk_laws.proofs.JoinedDecisions.{IsLeast-joined_exists, IsTop-joined_exists}
use Rattle.walk_laws.proofs.Walks.{HasWalk-arc, HasWalk-after}
use Rattle.walk_laws.proofs.LeastWalks.{IsLeast-predecessor, IsLeast-same}
use Rattle.walk_laws.proofs.OnWalks.{IsOn-from_parts}
use Rattle.walk_laws.proofs.CanonicalHubs.{IsCanonical-inherited, IsCanonical-no_cover}
use Rattle.walk_laws.proofs.Tops.{IsTop-node}
use Rattle.walk_laws.proofs.CommonHubs.{HasSum-top}
use Rattle.index_audit.specs.Checks.{IsWalked, IsCoveredAt, IsRedundantBy, IsSoundEntry}
use Rattle.index_audit.proofs.Sound.{place_of, node_at}

module _ (edges : List Edge) (at : List ℕ) (edge : All (IsEdge (length at)) edges) (ranking : IsRanking at) (rows : List (List Entry)) (chl : IsChl (Joined edges) at rows) where
  abbrev J : ℕ → ℕ → ℕ → Type 0
  J = Joined edges

  module _ (v : ℕ) (from_one : 1 ≤ v) (up_to_n : v ≤ length at) (e : Entry) (h : ℕ) (place : slice_get at e.pos ≡ Some h) (canon : IsCanonical J at h v e.dist) where
    hub_node : (1 ≤ h) × (h ≤ length at)
    hub_node = node_at at e.pos h ranking place

    walked : IsWalked J rows v h e
    walked = elim (cases_eq v h) [
      | inl same ↦ inl (sym same)
      | inr other ↦
          let p = IsLeast-predecessor J h v e.dist canon.least other in
          let is = IsEdge-joined (length at) edges p.node v p.weight edge p.arc in
          let on = IsOn-from_parts J h p.node v p.before p.weight p.least.walk (HasWalk-arc J p.node v p.weight p.arc) (IsLeast-same J h v e.dist (p.before + p.weight) (sym p.long) canon.least) in
          inr (
            p.node,
            record {
              weight = p.weight;
              dist = p.before;
              arc = Joined-sym edges p.node v p.weight p.arc;
              there = ((chl.row p.node is.from_one is.up_to_n).each (record { pos = e.pos; dist = p.before })).1 (h, place, IsCanonical-inherited J at h p.node v p.before e.dist canon on p.least);
              long = p.long;
            },
          )
    ]

    covered_at : (y w : ℕ) → J v y w → IsCoveredAt rows h y (e.dist + w)
    covered_at y w arc =
        let is = IsEdge-joined (length at) edges v y w edge arc in
        let walk = HasWalk-after J h v y w e.dist canon.least.walk arc in
        let least = IsLeast-joined_exists edges (weights_of_edges (length at) edges edge) h y (e.dist + w) walk in
        let top = IsTop-joined_exists edges (weights_of_edges (length at) edges edge) at ranking h y least.0 hub_node.0 hub_node.1 least.1 in
        let node = IsTop-node J at h y top.0 (position-lt at h ranking hub_node.0 hub_node.1) top.1 in (
          position_of at top.0,
          record {
            sum = least.0;
            both = HasSum-top J (Joined-sym edges) at h y (label_row rows h) (label_row rows y) (chl.row h hub_node.0 hub_node.1) (chl.row y is.to_one is.to_n) top.0 least.0 node top.1 least.1;
            short = least.1.none_shorter (e.dist + w) walk;
          },
        )

    needed : (q : ℕ) → IsRedundantBy rows v h e q → ⊥
    needed q r =
        let sum = r.meet.both in
        let of_hub = ((chl.row h hub_node.0 hub_node.1).each (record { pos = q; dist = sum.before })).0 sum.in_first in
        let of_node = ((chl.row v from_one up_to_n).each (record { pos = q; dist = sum.after })).0 sum.in_second in
        let same : of_node.0 ≡ of_hub.0 = same_Some of_node.0 of_hub.0 (sym of_node.1 ∙ of_hub.1) in
        IsCanonical-no_cover J at (Joined-sym edges) h v of_hub.0 e.dist sum.before sum.after canon
        (omega (arith, place_of at q of_hub.0 ranking of_hub.1, place_of at e.pos h ranking place, r.above))
        of_hub.2.least.walk (subst (λ x. IsCanonical J at x v sum.after) same of_node.2).least.walk (omega (arith, sum.long, r.meet.short))

    sound : IsSoundEntry J at rows v e
    sound = record { hub = h; place = place; walked = walked; covered = covered_at; needed = needed }

  pub chl_is_sound : (v : ℕ) (e : Entry) → 1 ≤ v → v ≤ length at → Contains (label_row rows v) e → IsSoundEntry J at rows v e
  chl_is_sound v e from_one up_to_n there =
      let is = ((chl.row v from_one up_to_n).each e).0 there in
      sound v from_one up_to_n e is.0 is.1 is.2
