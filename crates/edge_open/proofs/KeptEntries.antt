-- What a tree that is gone on with keeps: canonical entries, and arcs that are open but for the starts that are left.
use Rattle.std.proofs.Common.{◌≡◌, ◌⊎◌, ℕ, ◌+◌, ◌^◌, ◌<◌, ◌≤◌, List, ◌++◌, All, Contains, length, refl, sym, ap, subst, ◌∙◌, inl, inr, arith}
use Rattle.std.specs.Prelude.{Some, slice_get, Result, IsOk}
use Rattle.std.specs.declared.alloc.AllocError.{AllocError}
use Rattle.std.proofs.lemmas.Bool.{cases_eq}
use Rattle.std.proofs.lemmas.List.Elements.{All-contains, Contains-append_cases}
use Rattle.walk_laws.specs.declared.graph.Edge.{Edge}
use Rattle.walk_laws.specs.declared.entry.Entry.{Entry}
use Rattle.walk_laws.specs.Canonical.{IsCanonical}
use Rattle.walk_laws.specs.Graph.{IsGraph}
use Rattle.walk_laws.specs.Joined.{Joined}
use Rattle.walk_laws.specs.Labelling.{EntryFits, label_row}
use Rattle.walk_laws.specs.Ranking.{IsRanking}
use Rattle.walk_laws.specs.Walk.{HasWalk}
use Rattle.walk_laws.proofs.CanonicalHubs.{IsCanonical-itself}
use Rattle.walk_laws.proofs.JoinedEdges.{IsEdge-joined, Joined-positive, weights_of_edges}
use Rattle.walk_laws.proofs.Search.{Found-decided}
use Rattle.walk_laws.proofs.ShortWalks.{IsLeast-short}
use Rattle.hub_index.specs.Views.{IsNode}
use Rattle.pruned_tree.proofs.GrownPuts.{when_ok}
use Rattle.pruned_tree.proofs.TreeRounds.{root_node}
use Rattle.resumed_tree.specs.declared.resuming.Start.{Start}
use Rattle.resumed_tree.specs.Resumed.{AreWalks, Has, IsResumed}
use Rattle.edge_open.specs.OpenArcs.{WentOn, GoesOn, AreOpenBut}

abbrev start : ℕ → ℕ → ℕ → Start
start p v d = record { hub = p; node = v; dist = d }

abbrev entry : ℕ → ℕ → Entry
entry p d = record { pos = p; dist = d }

same_entry : (e : Entry) (p d : ℕ) → e.pos ≡ p → e.dist ≡ d → e ≡ entry p d
same_entry e p d level far = ap (λ q. entry q e.dist) level ∙ ap (entry p) far

is_entry_decided : (e : Entry) (p d : ℕ) → (e ≡ entry p d) ⊎ (e ≡ entry p d → ⊥)
is_entry_decided e p d = elim (cases_eq e.pos p) [
  | inr other ↦ inr (λ same. other (ap (λ (f : Entry). f.pos) same))
  | inl level ↦ elim (cases_eq e.dist d) [
    | inr other ↦ inr (λ same. other (ap (λ (f : Entry). f.dist) same))
    | inl far ↦ inl (same_entry e p d level far)
  ]
]

-- a row has an entry or it hasn't
has_entry : (row : List Entry) (p d : ℕ) → Contains row (entry p d) ⊎ (Contains row (entry p d) → ⊥)
has_entry row p d = elim (Found-decided (λ e. e ≡ entry p d) row (λ e _. is_entry_decided e p d)) [
  | inl found ↦ inl (subst (Contains row) found.holds found.there)
  | inr none ↦ inr (λ there. none (entry p d) there refl)
]

-- one position has one node
pub one_node : (at : List ℕ) (p h q : ℕ) → slice_get at p ≡ Some h → slice_get at p ≡ Some q → h ≡ q
one_node at p h q first second = cc

-- in rows of walks no entry is shorter than the canonical one of its hub
least_entry : (J : ℕ → ℕ → ℕ → Type 0) (at : List ℕ) (rows : List (List Entry)) → AreWalks J at rows → (h v p d c : ℕ) → IsNode (length at) v → slice_get at p ≡ Some h → IsCanonical J at h v d → Has rows v p c → d ≤ c
least_entry J at rows walks h v p d c node root hub there =
    let fits = All-contains (EntryFits J at v) (label_row rows v) (entry p c) (walks.fit v node.from_one node.up_to_n) there in
    let same = one_node at p fits.walk.0 h fits.walk.1 root in
    hub.least.none_shorter c (subst (λ x. HasWalk J x v c) same fits.walk.2)

-- no canonical distance reaches 2^94
pub hub_near : (n : ℕ) (edges : List Edge) (at : List ℕ) → IsGraph n edges → IsRanking at → length at ≡ n → (h v p d : ℕ) → slice_get at p ≡ Some h → IsCanonical (Joined edges) at h v d → d < 2 ^ 94
hub_near n edges at graph ranking size h v p d root hub =
    let node = root_node at h p ranking root in
    omega (arith, graph.fits, IsLeast-short n edges graph.edge h v d node.0 (omega (arith, node.1, size)) hub.least)

module _ (n : ℕ) (edges : List Edge) (at : List ℕ) (graph : IsGraph n edges) (size : length at ≡ n) where
  pub arc_to_node : (x y w : ℕ) → Joined edges x y w → IsNode (length at) x × IsNode (length at) y
  arc_to_node x y w arc =
      let edge = IsEdge-joined n edges x y w graph.edge arc in
      (record { from_one = edge.from_one; up_to_n = omega (arith, edge.up_to_n, size) }, record { from_one = edge.to_one; up_to_n = omega (arith, edge.to_n, size) })

  module _ (ranking : IsRanking at) (p : ℕ) (group others : List Start) (before after : List (List Entry)) (result : Result (Unit {0}) AllocError) (ok : IsOk result) (resumed : IsResumed edges at p group before after result) where
    -- a canonical entry of the tree's root may become no shorter, and none is lost
    own_stays : (h v d : ℕ) → IsNode (length at) v → slice_get at p ≡ Some h → IsCanonical (Joined edges) at h v d → Has before v p d → Has after v p d
    own_stays h v d node root hub there =
        let now = resumed.lessens v d node.from_one there in
        let same : now.0 ≡ d = omega (arith, now.2, least_entry (Joined edges) at after resumed.walks h v p d now.0 node root hub now.1) in
        subst (Has after v p) same now.1

    canonical_stays : (h v q d : ℕ) → IsNode (length at) v → slice_get at q ≡ Some h → IsCanonical (Joined edges) at h v d → Has before v q d → Has after v q d
    canonical_stays h v q d node root hub there = elim (cases_eq q p) [
      | inr other ↦ (resumed.others v q d node.from_one other).1 there
      | inl is ↦ subst (λ r. Has after v r d) (sym is) (own_stays h v d node (subst (λ r. slice_get at r ≡ Some h) is root) hub (subst (λ r. Has before v r d) is there))
    ]

    -- what came goes on at once
    came_and_went : (x y w q d : ℕ) → Joined edges x y w → q ≡ p → Has after x q d → (Has before x q d → ⊥) → WentOn (Joined edges) at after x y w q d
    came_and_went x y w q d arc is there none =
        subst (λ r. Has after x r d → (Has before x r d → ⊥) → WentOn (Joined edges) at after x y w r d) (sym is)
        (λ here not_before h root hub next. when_ok result _ ok resumed.closed h x d y w root hub (here, not_before) arc next) there none

    -- what was to go on by one of the tree's starts went on
    start_went : (x y w q d : ℕ) → Contains group (start q y (d + w)) → q ≡ p → WentOn (Joined edges) at after x y w q d
    start_went x y w q d there is h root hub next =
        subst (λ r. Has after y r (d + w)) (sym is) (when_ok result _ ok resumed.reached h (start q y (d + w)) (subst (λ r. slice_get at r ≡ Some h) is root) there next)

    -- what was to go on, or went on, still does
    still_goes : All (λ (s : Start). s.hub ≡ p) group → (x y w q d : ℕ) → IsNode (length at) y → GoesOn (group ++ others) (Joined edges) at before x y w q d → GoesOn others (Joined edges) at after x y w q d
    still_goes hubs x y w q d node was = elim was [
      | inl waits ↦ elim (Contains-append_cases group others (start q y (d + w)) waits) [
        | inl here ↦ inr (start_went x y w q d here (All-contains (λ (s : Start). s.hub ≡ p) group (start q y (d + w)) hubs here))
        | inr later ↦ inl later
      ]
      | inr on ↦ inr (λ h root hub next. canonical_stays h y q (d + w) node root next (on h root hub next))
    ]

    pub AreOpenBut-resumed : All (λ (s : Start). s.hub ≡ p) group → AreOpenBut (group ++ others) (Joined edges) (Joined edges) at before → AreOpenBut others (Joined edges) (Joined edges) at after
    AreOpenBut-resumed hubs were = record {
      walks = resumed.walks;
      own = λ h q root.
          let node = root_node at h q ranking root in
          canonical_stays h h q 0 (record { from_one = node.0; up_to_n = node.1 }) root (IsCanonical-itself (Joined edges) at (Joined-positive edges (weights_of_edges n edges graph.edge)) h) (were.own h q root);
      arcs = λ x y w arc q d there.
          let nodes = arc_to_node x y w arc in
          elim (cases_eq q p) [
            | inr other ↦ still_goes hubs x y w q d nodes.1 (were.arcs x y w arc q d ((resumed.others x q d nodes.0.from_one other).0 there))
            | inl is ↦ elim (has_entry (label_row before x) q d) [
              | inl was ↦ still_goes hubs x y w q d nodes.1 (were.arcs x y w arc q d was)
              | inr none ↦ inr (came_and_went x y w q d arc is there none)
            ]
          ];
    }
