-- Where a tree goes on is a node, and the walks from there are short enough.
use Rattle.std.proofs.Common.{◌≡◌, inl, inr, ℕ, ◌+◌, ◌*◌, ◌^◌, ◌<◌, ◌≤◌, List, length, subst, arith}
use Rattle.std.proofs.Math.Nat.{mul-le-mul_right}
use Rattle.walk_laws.specs.declared.graph.Edge.{Edge}
use Rattle.walk_laws.specs.Graph.{IsGraph, greatest_weight}
use Rattle.walk_laws.specs.Joined.{Joined}
use Rattle.walk_laws.specs.Ranking.{IsRanking}
use Rattle.walk_laws.specs.Walk.{HasWalk}
use Rattle.walk_laws.proofs.JoinedEdges.{IsEdge-joined}
use Rattle.walk_laws.proofs.Walks.{HasWalk-last}
use Rattle.pruned_tree.proofs.TreeRounds.{root_node}
use Rattle.resumed_tree.specs.declared.resuming.Start.{Start}
use Rattle.resumed_tree.specs.Resumed.{IsStart}

start_node : (n : ℕ) (edges : List Edge) (h v d : ℕ) → IsGraph n edges → (1 ≤ h) × (h ≤ n) → HasWalk (Joined edges) h v d → (1 ≤ v) × (v ≤ n)
start_node n edges h v d graph node walk = elim (HasWalk-last (Joined edges) h v d walk) [
  | inl none ↦ subst (λ x. (1 ≤ x) × (x ≤ n)) none.0 node
  | inr last ↦ let edge = IsEdge-joined n edges last.node v last.weight graph.edge last.arc in (edge.to_one, edge.to_n)
]

-- where a tree may go on there, it is a node
pub IsStart-node : (n : ℕ) (edges : List Edge) (at : List ℕ) (p : ℕ) (s : Start) → IsGraph n edges → IsRanking at → length at ≡ n → IsStart (Joined edges) at p s → (1 ≤ s.node) × (s.node ≤ n)
IsStart-node n edges at p s graph ranking size start =
    let walk = start.fits.walk in
    let root = root_node at walk.0 p ranking walk.1 in
    start_node n edges walk.0 s.node s.dist graph (root.0, omega (arith, root.1, size)) walk.2

-- no walk of a tree that goes on, and an edge after it, is as long as 2 ^ 96
pub fits_onward : (n : ℕ) (edges : List Edge) (dist more : ℕ) → IsGraph n edges → 1 ≤ n → dist + greatest_weight edges + more ≤ 2 ^ 94 + (n + 1) * greatest_weight edges → dist + greatest_weight edges < 2 ^ 96
fits_onward n edges dist more graph some room =
    let one : 1 * greatest_weight edges ≤ n * greatest_weight edges = mul-le-mul_right (greatest_weight edges) some in
    omega (arith, graph.fits)
