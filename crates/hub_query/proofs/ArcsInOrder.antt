-- The arcs of a node, as they are gone along by rising neighbour.
use Rattle.std.proofs.Common.{◌≡◌, ◌↔◌, ℕ, ◌*◌, ◌^◌, ◌<◌, ◌≤◌, List, All, Contains, length, map, get_or, take, sym, ap, subst, inl, inr, arith}
use Rattle.std.specs.List.Sorted.{IsNonDecreasing}
use Rattle.std.proofs.Math.Nat.{mul-le-mul}
use Rattle.std.proofs.lemmas.Bool.{cases_lt}
use Rattle.std.proofs.lemmas.List.{get_or-map, get_or_default, get_or-take, length-map, length-take}
use Rattle.std.proofs.lemmas.List.Elements.{Contains-get_or}
use Rattle.walk_laws.specs.declared.graph.Edge.{Edge}
use Rattle.walk_laws.specs.declared.graph.Arc.{Arc}
use Rattle.walk_laws.specs.Graph.{IsGraph, greatest_weight}
use Rattle.walk_laws.specs.Joined.{Joined}
use Rattle.walk_laws.proofs.JoinedEdges.{All-arcs, Joined-weight}

-- an arc for a read past the end, where none is made
abbrev pub no_arc : Arc
no_arc = record { to = 0; w = 0 }

-- an arc of a graph leads to one of its nodes, by a weight of at least 1
pub record IsArc (n : ℕ) (a : Arc) : Type 0 where
  pub from_one : 1 ≤ a.to
  pub up_to_n : a.to ≤ n
  pub weight : 1 ≤ a.w
  pub light : a.w < 2 ^ 94

pub arc_at : (n : ℕ) (edges : List Edge) (v : ℕ) (arcs : List Arc) (k : ℕ) (a : Arc) → IsGraph n edges → 1 ≤ v → v ≤ n → ((t w : ℕ) → Contains arcs (record { to = t; w = w }) ↔ Joined edges v t w) → k < length arcs → IsArc n (get_or arcs k a)
arc_at n edges v arcs k a is from_one up_to_n joined within =
    let edge = All-arcs n edges v arcs is.edge joined k a within in
    let arc = get_or arcs k a in
    let light : arc.w ≤ greatest_weight edges = Joined-weight edges v arc.to arc.w ((joined arc.to arc.w).0 (Contains-get_or arcs k a within)) in
    let product : 1 * greatest_weight edges ≤ n * greatest_weight edges = mul-le-mul {n₁ = 1} {m₁ = greatest_weight edges} {n₂ = n} {m₂ = greatest_weight edges} (omega arith) (omega arith) in
    record { from_one = edge.to_one; up_to_n = edge.to_n; weight = edge.weight; light = omega (arith, light, product, is.fits) }

module _ (arcs : List Arc) (rising : IsNonDecreasing (map (λ a. a.to) arcs)) (k : ℕ) (within : k < length arcs) where
  to_of : Arc → ℕ
  to_of a = a.to

  rises_to : (i : ℕ) → k ≤ i → i < length arcs → (get_or arcs k no_arc).to ≤ (get_or arcs i no_arc).to
  unfolding to_of
  rises_to i le lt =
      let r : get_or (map (λ a. a.to) arcs) k 0 ≤ get_or (map (λ a. a.to) arcs) i 0 = rising k i 0 le (omega (arith, length-map arcs to_of, lt)) in
      omega (arith, r, get_or-map to_of arcs k no_arc 0 within, get_or-map to_of arcs i no_arc 0 lt)

  -- where P holds of no arc before it, each arc of which P holds leads to no lesser node
  pub no_lesser : (P : Arc → Type 0) → All (λ a. P a → ⊥) (take k arcs) → (a : Arc) → Contains arcs a → P a → (get_or arcs k no_arc).to ≤ a.to
  no_lesser P none a there holds =
      let here : get_or arcs there.0 no_arc ≡ a = subst (λ x. x ≡ a) (get_or_default arcs there.0 a no_arc there.1) there.2 in
      elim (cases_lt there.0 k) [
        | inr after ↦ omega (arith, rises_to there.0 after there.1, ap (λ (x : Arc). x.to) here)
        | inl in_prefix ↦
            let taken : get_or (take k arcs) there.0 no_arc ≡ a = subst (λ x. x ≡ a) (sym (get_or-take k arcs there.0 no_arc in_prefix)) here in
            absurd (none there.0 no_arc (omega (arith, length-take k arcs, in_prefix, there.1)) (subst P (sym taken) holds))
      ]
