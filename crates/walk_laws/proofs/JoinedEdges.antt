-- What a join tells of its nodes and its weight.
use Rattle.std.specs.Prelude.{ℕ, ◌+◌, ◌*◌, ◌^◌, ◌<◌, ◌≤◌, ◌↔◌, List, [], ◌∷◌, All, Contains, length}
use Rattle.std.proofs.Common.{inl, inr, arith, ap, get_or, zero, suc}
use Rattle.std.proofs.lemmas.List.Elements.{All-contains, All-weaker, Contains-get_or}
use Rattle.walk_laws.specs.declared.graph.Edge.{Edge}
use Rattle.walk_laws.specs.declared.graph.Arc.{Arc}
use Rattle.std.proofs.Math.Nat.{mul-le-mul_right}
use Rattle.walk_laws.specs.Graph.{IsEdge, IsGraph, greatest_weight}
use Rattle.walk_laws.specs.Joined.{Joined}

pub Joined-sym : (edges : List Edge) (x y w : ℕ) → Joined edges x y w → Joined edges y x w
Joined-sym edges x y w h = elim h [ inl one_way ↦ inr one_way | inr other_way ↦ inl other_way ]

-- both ends of a join are nodes, and its weight is at least 1
pub IsEdge-joined : (n : ℕ) (edges : List Edge) (x y w : ℕ) → All (IsEdge n) edges → Joined edges x y w → IsEdge n (record { u = x; v = y; w = w })
IsEdge-joined n edges x y w all h =
    elim h [
      | inl one_way ↦ All-contains (IsEdge n) edges (record { u = x; v = y; w = w }) all one_way
      | inr other_way ↦
          let back = All-contains (IsEdge n) edges (record { u = y; v = x; w = w }) all other_way in
          record { from_one = back.to_one; up_to_n = back.to_n; to_one = back.from_one; to_n = back.up_to_n; weight = back.weight }
    ]

-- no edge is heavier than the heaviest
le_greatest_weight : (edges : List Edge) (k : ℕ) (d : Edge) → k < length edges → (get_or edges k d).w ≤ greatest_weight edges
le_greatest_weight [] k d lt = absurd (omega arith)
le_greatest_weight (e ∷ edges) zero d lt = omega arith
le_greatest_weight (e ∷ edges) (suc k) d lt = omega (arith, le_greatest_weight edges k d (omega arith))

weight_of_contained : (edges : List Edge) (e : Edge) → Contains edges e → e.w ≤ greatest_weight edges
weight_of_contained edges e h =
    omega (arith, le_greatest_weight edges h.0 e h.1, ap (λ (x : Edge). x.w) h.2)

pub Joined-weight : (edges : List Edge) (x y w : ℕ) → Joined edges x y w → w ≤ greatest_weight edges
Joined-weight edges x y w h =
    elim h [
      | inl one_way ↦ weight_of_contained edges (record { u = x; v = y; w = w }) one_way
      | inr other_way ↦ weight_of_contained edges (record { u = y; v = x; w = w }) other_way
    ]

-- each arc of a row, by the clause `joined` of `arcs`, is an edge between nodes
pub All-arcs : (n : ℕ) (edges : List Edge) (v : ℕ) (row : List Arc) → All (IsEdge n) edges → ((t w : ℕ) → Contains row (record { to = t; w = w }) ↔ Joined edges v t w) → All (λ a. IsEdge n (record { u = v; v = a.to; w = a.w })) row
All-arcs n edges v row all joined k d lt =
    let a = get_or row k d in
    IsEdge-joined n edges v a.to a.w all ((joined a.to a.w).0 (Contains-get_or row k d lt))

-- where each edge weighs at least 1, so does each join
pub Joined-positive : (edges : List Edge) → All (λ e. 1 ≤ e.w) edges → (x y w : ℕ) → Joined edges x y w → 1 ≤ w
Joined-positive edges all x y w h =
    elim h [
      | inl one_way ↦ All-contains (λ e. 1 ≤ e.w) edges (record { u = x; v = y; w = w }) all one_way
      | inr other_way ↦ All-contains (λ e. 1 ≤ e.w) edges (record { u = y; v = x; w = w }) all other_way
    ]

-- edges between nodes weigh at least 1
pub weights_of_edges : (n : ℕ) (edges : List Edge) → All (IsEdge n) edges → All (λ e. 1 ≤ e.w) edges
weights_of_edges n edges all = All-weaker (IsEdge n) (λ e. 1 ≤ e.w) (λ e h. h.weight) edges all

-- the arcs of a row lead to nodes, and are no heavier than the heaviest edge
pub record IsArc (n heaviest : ℕ) (a : Arc) : Type 0 where
  pub from_one : 1 ≤ a.to
  pub up_to_n : a.to ≤ n
  pub light : a.w ≤ heaviest

-- the arcs of a node of a graph
pub arcs_of_row : (n : ℕ) (edges : List Edge) (v : ℕ) (row : List Arc) → IsGraph n edges → ((t w : ℕ) → Contains row (record { to = t; w = w }) ↔ Joined edges v t w) → All (IsArc n (greatest_weight edges)) row
arcs_of_row n edges v row graph joined k d h =
    let a = get_or row k d in
    let join : Joined edges v a.to a.w = (joined a.to a.w).0 (Contains-get_or row k d h) in
    let edge = IsEdge-joined n edges v a.to a.w graph.edge join in
    record { from_one = edge.to_one; up_to_n = edge.to_n; light = Joined-weight edges v a.to a.w join }

-- no walk of a tree and an edge after it is as long as 2 ^ 96
pub fits_96 : (n : ℕ) (edges : List Edge) (dist more : ℕ) → IsGraph n edges → 1 ≤ n → dist + greatest_weight edges + more ≤ (n + 1) * greatest_weight edges → dist + greatest_weight edges < 2 ^ 96
fits_96 n edges dist more graph some room =
    let one : 1 * greatest_weight edges ≤ n * greatest_weight edges = mul-le-mul_right (greatest_weight edges) some in
    omega (arith, graph.fits)
