-- The edges of a grid are those of a graph.
use Rattle.std.proofs.Common.{◌≡◌, refl, ℕ, zero, suc, ◌+◌, ◌*◌, ◌^◌, ◌<◌, ◌≤◌, Bool, true, false, List, [], ◌∷◌, cond, nat_lt, ltb-true, arith}
use Rattle.std.specs.Prelude.{All, flat_map}
use Rattle.std.specs.List.{range_with_len}
use Rattle.std.proofs.Math.Nat.{mul-le-mul, mul-le-mul_right}
use Rattle.std.proofs.lemmas.List.Elements.{All-append, All-cons, All-nil}
use Rattle.walk_laws.specs.Graph.{IsEdge, IsGraph, greatest_weight}
use Rattle.walk_laws.proofs.JoinedEdges.{weights_of_edges}
use Rattle.grid_work.specs.Grid.{ends_from, ends_in_row, grid_edges, grid_ends, node_at, weighted}
use Rattle.grid_work.specs.Weights.{next_number, weight_of}

-- both ends are nodes
abbrev AreNodes : ℕ → ℕ × ℕ → Type 0
AreNodes n ends = (1 ≤ ends.0) × (ends.0 ≤ n) × (1 ≤ ends.1) × (ends.1 ≤ n)

-- what holds of each part holds of all
all_parts : {A : Type 0} (P : A → Type 0) (f : ℕ → List A) (a n : ℕ) → ((k : ℕ) → a ≤ k → k < a + n → All P (f k)) → All P (flat_map f (range_with_len a n))
all_parts P f a zero each = All-nil P
all_parts P f a (suc n) each =
    All-append P (f a) (flat_map f (range_with_len (a + 1) n)) (each a (omega arith) (omega arith))
    (all_parts P f (a + 1) n (λ k from to. each k (omega arith) (omega arith)))

-- one pair of ends, where a test holds
tested : (P : ℕ × ℕ → Type 0) (b : Bool) (ends : ℕ × ℕ) → (b ≡ true → P ends) → All P (cond b (ends ∷ []) [])
tested P true ends here = All-cons P ends [] (here refl) (All-nil P)
tested P false ends here = All-nil P

-- a row of a grid lies within it
row_within : (side row : ℕ) → row < side → row * side + side ≤ side * side
row_within side row lt = let rows : (row + 1) * side ≤ side * side = mul-le-mul_right side (omega arith) in omega (arith, rows, next_row row side)
  where
    next_row : (r s : ℕ) → (r + 1) * s ≡ r * s + s
    next_row r s = omega arith

module _ (side row column : ℕ) (in_row : row < side) (in_column : column < side) where
  here : node_at side row column ≤ side * side
  here = omega (arith, row_within side row in_row)

  right : nat_lt (column + 1) side ≡ true → AreNodes (side * side) (node_at side row column, node_at side row (column + 1))
  right is = (omega arith, here, omega arith, omega (arith, row_within side row in_row, ltb-true (column + 1) side is))

  lower : nat_lt (row + 1) side ≡ true → AreNodes (side * side) (node_at side row column, node_at side (row + 1) column)
  lower is = (omega arith, here, omega arith, omega (arith, row_within side (row + 1) (ltb-true (row + 1) side is)))

  ends_within : All (AreNodes (side * side)) (ends_from side row column)
  ends_within =
      All-append (AreNodes (side * side)) _ _
      (tested (AreNodes (side * side)) (nat_lt (column + 1) side) (node_at side row column, node_at side row (column + 1)) right)
      (tested (AreNodes (side * side)) (nat_lt (row + 1) side) (node_at side row column, node_at side (row + 1) column) lower)

all_within : (side : ℕ) → All (AreNodes (side * side)) (grid_ends side)
all_within side =
    all_parts (AreNodes (side * side)) (ends_in_row side) 0 side (λ r from in_row.
    all_parts (AreNodes (side * side)) (ends_from side r) 0 side (λ c first in_column. ends_within side r c (omega arith) (omega arith)))

weight_from_one : (x : ℕ) → 1 ≤ weight_of x
weight_from_one x = omega arith

weight_to_eight : (x : ℕ) → weight_of x ≤ 8
weight_to_eight x = omega arith

edges_within : (n x : ℕ) (ends : List (ℕ × ℕ)) → All (AreNodes n) ends → All (IsEdge n) (weighted x ends)
edges_within n x [] within = All-nil (IsEdge n)
edges_within n x (e ∷ ends) within =
    let first : AreNodes n e = within zero e (omega arith) in
    All-cons (IsEdge n) (record { u = e.0; v = e.1; w = weight_of (next_number x) }) (weighted (next_number x) ends)
    (record { from_one = first.0; up_to_n = first.1; to_one = first.2; to_n = first.3; weight = weight_from_one (next_number x) })
    (edges_within n (next_number x) ends (λ k d lt. within (suc k) d (omega arith)))

no_heavier : (x : ℕ) (ends : List (ℕ × ℕ)) → greatest_weight (weighted x ends) ≤ 8
no_heavier x [] = omega arith
no_heavier x (e ∷ ends) = omega (arith, weight_to_eight (next_number x), no_heavier (next_number x) ends)

-- the edges of a grid weigh at least 1 ..
pub grid_weights : (side seed : ℕ) → All (λ e. 1 ≤ e.w) (grid_edges side seed)
grid_weights side seed = weights_of_edges (side * side) (grid_edges side seed) (edges_within (side * side) seed (grid_ends side) (all_within side))

-- .. and are those of a graph
pub grid_is_graph : (side seed : ℕ) → side ≤ 2 ^ 15 → IsGraph (side * side) (grid_edges side seed)
grid_is_graph side seed small =
    let many : side * side ≤ 2 ^ 15 * 2 ^ 15 = mul-le-mul small small in
    let weight : greatest_weight (grid_edges side seed) ≤ 8 = no_heavier seed (grid_ends side) in
    let product : side * side * greatest_weight (grid_edges side seed) ≤ 2 ^ 30 * 8 = mul-le-mul {n₁ = side * side} {n₂ = 2 ^ 30} (omega arith) weight in
    record {
      small = omega arith;
      edge = edges_within (side * side) seed (grid_ends side) (all_within side);
      fits = omega arith;
    }
