-- The planted tree of an undirected graph is exact: its labels are the nodes for which its root is canonical.
use Rattle.std.proofs.Common.{◌≡◌, ◌≢◌, ℕ, ◌+◌, ◌≤◌, List, length, get_or, inl, inr, refl, sym, ap, ◌∙◌, arith}
use Rattle.std.specs.Prelude.{◌↔◌, Contains}
use Rattle.std.proofs.Math.ListN.{set, get_or-eq_default}
use Rattle.std.proofs.lemmas.Bool.{cases_lt}
use Rattle.std.proofs.lemmas.List.Elements.{Contains-get_or}
use Rattle.walk_laws.specs.declared.graph.Arc.{Arc}
use Rattle.walk_laws.specs.declared.graph.Edge.{Edge}
use Rattle.walk_laws.specs.Canonical.{IsCanonical}
use Rattle.walk_laws.specs.Graph.{IsGraph}
use Rattle.walk_laws.specs.Joined.{Joined}
use Rattle.walk_laws.specs.Ranking.{position_of}
use Rattle.walk_laws.proofs.JoinedEdges.{Joined-positive, weights_of_edges}
use Rattle.plant_tree.specs.Planted.{AreOfNodes}
use Rattle.plant_tree.specs.Relaxed.{relaxed_all}
use Rattle.plant_tree.proofs.TreeTypes.{Found, Reach}
use Rattle.frontier.specs.declared.reach.Reach.TheVariants.{Unreached, Queued, Settled}
use Rattle.plant_tree.proofs.TreeEnds.{tree_is_exact}
use Rattle.plant_tree.proofs.TreeFacts.{IsTree, reach_of}
use Rattle.plant_tree.proofs.TreeRounds.{round_tree}
use Rattle.walk_laws.proofs.JoinedEdges.{arcs_of_row}

-- a round over the arcs of a graph
pub round_of_tree : (n : ℕ) (edges : List Edge) (at : List ℕ) (h v : ℕ) (f : Found) (row : List Arc) (nodes : List Reach) → IsGraph n edges → length nodes ≡ n + 1 → IsTree (Joined edges) (Joined edges) at h nodes → get_or nodes v Unreached ≡ Queued f → ((x : ℕ) (g : Found) → get_or nodes x Unreached ≡ Queued g → f.dist ≤ g.dist) → ((t w : ℕ) → Contains row (record { to = t; w = w }) ↔ Joined edges v t w) → IsTree (Joined edges) (Joined edges) at h (relaxed_all at f row (set nodes v (Settled f)))
round_of_tree n edges at h v f row nodes graph size tree queued nearest arcs =
    round_tree (Joined edges) (Joined-positive edges (weights_of_edges n edges graph.edge)) at h v f row nodes tree queued nearest arcs
    (λ k d lt. omega (arith, (arcs_of_row n edges v row graph arcs k d lt).up_to_n, size))

-- the entries that are read off a tree: each node that is settled with its root for its highest-ranked node
abbrev pub AreLabels : ℕ → List Reach → List (ℕ × ℕ) → Type 0
AreLabels p nodes labels = (v d : ℕ) → Contains labels (v, d) ↔ get_or nodes v Unreached ≡ Settled (record { dist = d; carried = record { position = p } })

-- the labels of the finished tree, in which no queued node carries the root
pub planted_exactly : (n : ℕ) (edges : List Edge) (at : List ℕ) (h p v d : ℕ) (nodes : List Reach) (labels : List (ℕ × ℕ)) → IsGraph n edges → position_of at h ≡ p → IsTree (Joined edges) (Joined edges) at h nodes → ((x : ℕ) (f : Found) → reach_of nodes x ≡ Queued f → f.carried.position ≢ p) → AreLabels p nodes labels → Contains labels (v, d) ↔ IsCanonical (Joined edges) at h v d
planted_exactly n edges at h p v d nodes labels graph position tree done read =
    let exact = tree_is_exact (Joined edges) (Joined-positive edges (weights_of_edges n edges graph.edge)) at h nodes tree (λ x f is same. done x f is (same ∙ position)) v d in (
      λ there. exact.0 (record { found = record { dist = d; carried = record { position = p } }; settled = (read v d).0 there; root = sym position; long = refl }),
      λ canonical.
          let label = exact.1 canonical in
          let same : label.found ≡ record { dist = d; carried = record { position = p } } = λ i. record { dist = label.long i; carried = record { position = (label.root ∙ position) i } } in
          (read v d).1 (label.settled ∙ ap Settled same),
    )

-- where place 0 stands for no node, the labels are of the nodes 1..n
pub labels_of_nodes : (n p : ℕ) (nodes : List Reach) (labels : List (ℕ × ℕ)) → length nodes ≡ n + 1 → get_or nodes 0 Unreached ≡ Unreached → AreLabels p nodes labels → AreOfNodes n labels
labels_of_nodes n p nodes labels size none read = λ k e h.
    let x = get_or labels k e in
    let settled : get_or nodes x.0 Unreached ≡ Settled (record { dist = x.1; carried = record { position = p } }) = (read x.0 x.1).0 (Contains-get_or labels k e h) in (
      elim (cases_lt 0 x.0) [
        | inl above ↦ above
        | inr zero_node ↦
            let is_zero : x.0 ≡ 0 = omega arith in
            let none_there : get_or nodes x.0 Unreached ≡ Unreached = ap (λ y. get_or nodes y Unreached) is_zero ∙ none in
            absurd cc
      ],
      elim (cases_lt x.0 (length nodes)) [
        | inl inside ↦ omega (arith, inside, size)
        | inr outside ↦ let none_there : get_or nodes x.0 Unreached ≡ Unreached = get_or-eq_default nodes Unreached outside in absurd cc
      ],
    )
