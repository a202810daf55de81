-- The new numbers of the nodes of a graph, and the way back.
use Rattle.std.specs.Prelude.{◌≡◌, ℕ, max, ◌++◌, ◌+◌, ◌-◌, ◌<◌, ◌≤◌, false, Some, List, [], ◌∷◌, All, Contains, length, map, slice_get, refl}
use Rattle.std.specs.List.{AllByRecursion, IsDistinct}
use Rattle.std.proofs.Common.{◌∙◌, ap, sym, subst, inl, inr, arith, get_or, take, eqb}
use Rattle.std.proofs.lemmas.Bool.{eq-eqb, ne_eqb, eqb-false, cases_eq}
use Rattle.std.proofs.lemmas.List.{length-map, map-append, take_more}
use Rattle.std.proofs.lemmas.List.Elements.{All-head, All-tail, All-cons, All-map}
use Rattle.std.proofs.lemmas.Option.{get_or_from_slice_get, slice_get_within}
use Rattle.walk_laws.specs.declared.graph.Edge.{Edge}
use Rattle.walk_laws.specs.Graph.{IsEdge, IsGraph, greatest_weight}
use Rattle.walk_laws.specs.Joined.{Joined}
use Rattle.walk_laws.specs.Ranking.{IsRanking, position_of}
use Rattle.walk_laws.proofs.JoinedEdges.{IsEdge-joined}
use Rattle.walk_laws.proofs.Members.{Contains-first, Contains-next, Contains-cons_cases}
use Rattle.walk_laws.proofs.Positions.{position-lt, get_or-position, position-get_or}
use Rattle.renumbering.specs.Renumbered.{number_in, renumbered_edge, renumbered_edges, renumbered}
use Rattle.renumbering.specs.Laws.{LabellingsComeBack}
use Rattle.renumbering.proofs.Carried.{Carries, IsHubEntry-both}

-- a node of a graph
abbrev pub IsNode : ℕ → ℕ → Type 0
IsNode n v = (1 ≤ v) × (v ≤ n)

-- the node that has a new number
abbrev pub node_at : List ℕ → ℕ → ℕ
node_at bfs_order k = get_or bfs_order (k - 1) 0

pub number_is_node : (bfs_order : List ℕ) (v : ℕ) → IsRanking bfs_order → IsNode (length bfs_order) v → IsNode (length bfs_order) (number_in bfs_order v)
number_is_node bfs_order v r node = (omega arith, omega (arith, position-lt bfs_order v r node.0 node.1))

node_is_node : (bfs_order : List ℕ) (k : ℕ) → IsRanking bfs_order → IsNode (length bfs_order) k → IsNode (length bfs_order) (node_at bfs_order k)
node_is_node bfs_order k r node = r.node (k - 1) 0 (omega (arith, node.0, node.1))

pub node_of_number : (bfs_order : List ℕ) (v : ℕ) → IsRanking bfs_order → IsNode (length bfs_order) v → node_at bfs_order (number_in bfs_order v) ≡ v
node_of_number bfs_order v r node =
    let place : position_of bfs_order v + 1 - 1 ≡ position_of bfs_order v = omega arith in
    ap (λ p. get_or bfs_order p 0) place ∙ get_or-position bfs_order v 0 (position-lt bfs_order v r node.0 node.1)

number_of_node : (bfs_order : List ℕ) (k : ℕ) → IsRanking bfs_order → IsNode (length bfs_order) k → number_in bfs_order (node_at bfs_order k) ≡ k
number_of_node bfs_order k r node = omega (arith, node.0, node.1, position-get_or bfs_order (k - 1) 0 r.once (omega (arith, node.0, node.1)))

Contains-there : (bfs_order : List ℕ) (edges : List Edge) (e : Edge) → Contains edges e → Contains (renumbered_edges bfs_order edges) (renumbered_edge bfs_order e)
Contains-there bfs_order [] e (k, lt, is) = absurd (omega arith)
Contains-there bfs_order (x ∷ edges) e h =
    elim (Contains-cons_cases x e edges h) [
      | inl here ↦ subst (λ y. Contains (renumbered_edges bfs_order (x ∷ edges)) (renumbered_edge bfs_order y)) here (Contains-first (renumbered_edge bfs_order x) (renumbered_edges bfs_order edges))
      | inr later ↦ Contains-next (renumbered_edge bfs_order x) (renumbered_edge bfs_order e) (renumbered_edges bfs_order edges) (Contains-there bfs_order edges e later)
    ]

-- an edge by the new numbers is one by the old ones
record Came (bfs_order : List ℕ) (edges : List Edge) (e : Edge) : Type 0 where
  old : Edge
  known : Contains edges old
  is : renumbered_edge bfs_order old ≡ e

Contains-came : (bfs_order : List ℕ) (edges : List Edge) (e : Edge) → Contains (renumbered_edges bfs_order edges) e → Came bfs_order edges e
Contains-came bfs_order [] e (k, lt, is) = absurd (omega arith)
Contains-came bfs_order (x ∷ edges) e h =
    elim (Contains-cons_cases (renumbered_edge bfs_order x) e (renumbered_edges bfs_order edges) h) [
      | inl here ↦ record { old = x; known = Contains-first x edges; is = here }
      | inr later ↦ let came = Contains-came bfs_order edges e later in record { old = came.old; known = Contains-next x came.old edges came.known; is = came.is }
    ]

abbrev edge : ℕ → ℕ → ℕ → Edge
edge x y w = record { u = x; v = y; w = w }

-- an edge is its fields
same_edge : (e : Edge) (u v w : ℕ) → e.u ≡ u → e.v ≡ v → e.w ≡ w → e ≡ edge u v w
same_edge e u v w a b c = ap (λ x. edge x e.v e.w) a ∙ ap (λ x. edge u x e.w) b ∙ ap (edge u v) c

Joined-there : (bfs_order : List ℕ) (edges : List Edge) (x y w : ℕ) → Joined edges x y w → Joined (renumbered_edges bfs_order edges) (number_in bfs_order x) (number_in bfs_order y) w
Joined-there bfs_order edges x y w h =
    elim h [
      | inl one_way ↦ inl (Contains-there bfs_order edges (edge x y w) one_way)
      | inr other_way ↦ inr (Contains-there bfs_order edges (edge y x w) other_way)
    ]

-- the old edge after a new one between x and y
came_back : (n : ℕ) (bfs_order : List ℕ) (edges : List Edge) (x y w : ℕ) → All (IsEdge n) edges → IsRanking bfs_order → length bfs_order ≡ n → Contains (renumbered_edges bfs_order edges) (edge x y w) → Contains edges (edge (node_at bfs_order x) (node_at bfs_order y) w)
came_back n bfs_order edges x y w fits r size h =
    let came = Contains-came bfs_order edges (edge x y w) h in
    let ends : IsEdge n came.old = IsEdge-joined n edges came.old.u came.old.v came.old.w fits (inl came.known) in
    let first : node_at bfs_order x ≡ came.old.u = ap (node_at bfs_order) (sym (ap (λ (e : Edge). e.u) came.is)) ∙ node_of_number bfs_order came.old.u r (ends.from_one, omega (arith, ends.up_to_n, size)) in
    let second : node_at bfs_order y ≡ came.old.v = ap (node_at bfs_order) (sym (ap (λ (e : Edge). e.v) came.is)) ∙ node_of_number bfs_order came.old.v r (ends.to_one, omega (arith, ends.to_n, size)) in
    subst (Contains edges) (same_edge came.old (node_at bfs_order x) (node_at bfs_order y) w (sym first) (sym second) (ap (λ (e : Edge). e.w) came.is)) came.known

Joined-back : (n : ℕ) (bfs_order : List ℕ) (edges : List Edge) (x y w : ℕ) → All (IsEdge n) edges → IsRanking bfs_order → length bfs_order ≡ n → Joined (renumbered_edges bfs_order edges) x y w → Joined edges (node_at bfs_order x) (node_at bfs_order y) w
Joined-back n bfs_order edges x y w fits r size h =
    elim h [
      | inl one_way ↦ inl (came_back n bfs_order edges x y w fits r size one_way)
      | inr other_way ↦ inr (came_back n bfs_order edges y x w fits r size other_way)
    ]

-- the ends of edges by the new numbers are nodes
pub renumbered_fits : (n : ℕ) (bfs_order : List ℕ) (edges : List Edge) → All (IsEdge n) edges → IsRanking bfs_order → length bfs_order ≡ n → All (IsEdge n) (renumbered_edges bfs_order edges)
renumbered_fits n bfs_order [] fits r size = λ k d lt. absurd (omega arith)
renumbered_fits n bfs_order (e ∷ edges) fits r size =
    let old = All-head (IsEdge n) e edges fits in
    let first : IsNode n (number_in bfs_order e.u) = rw size at (number_is_node bfs_order e.u r (rw size (old.from_one, old.up_to_n))) in
    let second : IsNode n (number_in bfs_order e.v) = rw size at (number_is_node bfs_order e.v r (rw size (old.to_one, old.to_n))) in
    All-cons (IsEdge n) (renumbered_edge bfs_order e) (renumbered_edges bfs_order edges) (record { from_one = first.0; up_to_n = first.1; to_one = second.0; to_n = second.1; weight = old.weight }) (renumbered_fits n bfs_order edges (All-tail (IsEdge n) e edges fits) r size)

pub renumbered_nodes : (n : ℕ) (bfs_order at : List ℕ) → IsRanking bfs_order → length bfs_order ≡ n → All (IsNode n) at → All (IsNode n) (renumbered bfs_order at)
renumbered_nodes n bfs_order at r size nodes =
    All-map (IsNode n) (number_in bfs_order) at (λ k d lt. rw size at (number_is_node bfs_order (get_or at k d) r (rw size (nodes k d lt))))

carries : (n : ℕ) (bfs_order : List ℕ) (edges : List Edge) → IsGraph n edges → IsRanking bfs_order → length bfs_order ≡ n → Carries (Joined edges) (Joined (renumbered_edges bfs_order edges)) (IsNode n) (number_in bfs_order) (node_at bfs_order)
carries n bfs_order edges graph r size = record {
  there = Joined-there bfs_order edges;
  back = λ x y w. Joined-back n bfs_order edges x y w graph.edge r size;
  inside = λ x node. rw size at (number_is_node bfs_order x r (rw size node));
  inside_back = λ k node. rw size at (node_is_node bfs_order k r (rw size node));
  same = λ x node. node_of_number bfs_order x r (rw size node);
  same_back = λ k node. number_of_node bfs_order k r (rw size node);
  ends = λ x y w joined. let e = IsEdge-joined n edges x y w graph.edge joined in (e.to_one, e.to_n);
  ends_back = λ x y w joined. let e = IsEdge-joined n (renumbered_edges bfs_order edges) x y w (renumbered_fits n bfs_order edges graph.edge r size) joined in (e.to_one, e.to_n);
}

-- a node's new number has the position that the node has
positions_stay : (n : ℕ) (bfs_order at : List ℕ) (x : ℕ) → IsRanking bfs_order → length bfs_order ≡ n → All (IsNode n) at → IsNode n x → position_of (renumbered bfs_order at) (number_in bfs_order x) ≡ position_of at x
positions_stay n bfs_order [] x r size nodes node = refl
positions_stay n bfs_order (y ∷ at) x r size nodes node =
    let rest = positions_stay n bfs_order at x r size (All-tail (IsNode n) y at nodes) node in
    let other : IsNode n y = All-head (IsNode n) y at nodes in
    elim (cases_eq x y) [
      | inl same ↦ rw (eq-eqb x y same, eq-eqb (number_in bfs_order x) (number_in bfs_order y) (ap (number_in bfs_order) same)) refl
      | inr apart ↦ rw (ne_eqb x y apart, ne_eqb (number_in bfs_order x) (number_in bfs_order y) (λ e. apart (sym (node_of_number bfs_order x r (rw size node)) ∙ ap (node_at bfs_order) e ∙ node_of_number bfs_order y r (rw size other)))) (ap (λ p. p + 1) rest)
    ]

-- and the other way round the list is as it was
back_again : (n : ℕ) (bfs_order at : List ℕ) → IsRanking bfs_order → length bfs_order ≡ n → All (IsNode n) at → at ≡ map (node_at bfs_order) (renumbered bfs_order at)
back_again n bfs_order [] r size nodes = refl
back_again n bfs_order (y ∷ at) r size nodes =
    let head : node_at bfs_order (number_in bfs_order y) ≡ y = node_of_number bfs_order y r (rw size (All-head (IsNode n) y at nodes)) in
    rw head (ap (λ l. y ∷ l) (back_again n bfs_order at r size (All-tail (IsNode n) y at nodes)))

pub comes_back : LabellingsComeBack
comes_back n edges bfs_order at rows back graph r size ranking length_at chl long same =
    let nodes : All (IsNode n) at = λ k d lt. (let fits : (1 ≤ get_or at k d) × (get_or at k d ≤ length at) = ranking.node k d lt in (fits.0, omega (arith, fits.1, length_at))) in
    let new_length : length (renumbered bfs_order at) ≡ n = length-map at (number_in bfs_order) ∙ length_at in
    let at_nodes : (p h : ℕ) → slice_get at p ≡ Some h → IsNode n h = λ p h is. rw (get_or_from_slice_get at p h 0 is) at (nodes p 0 (slice_get_within at p h is)) in
    let new_nodes : (p h : ℕ) → slice_get (renumbered bfs_order at) p ≡ Some h → IsNode n h = λ p h is. rw (get_or_from_slice_get (renumbered bfs_order at) p h 0 is) at (renumbered_nodes n bfs_order at r size nodes p 0 (slice_get_within (renumbered bfs_order at) p h is)) in
    record {
      size = long ∙ sym length_at;
      row = λ v low high.
          let node : IsNode n v = (low, omega (arith, high, length_at)) in
          let number = number_in bfs_order v in
          let fits : IsNode n number = rw size at (number_is_node bfs_order v r (rw size node)) in
          let row = chl.row number fits.0 (omega (arith, fits.1, new_length)) in
          rw (same v low node.1) (record {
            rising = row.rising;
            each = λ e.
                let both = IsHubEntry-both (Joined edges) (Joined (renumbered_edges bfs_order edges)) (IsNode n) (number_in bfs_order) (node_at bfs_order) at (renumbered bfs_order at) (carries n bfs_order edges graph r size)
                (λ x within. positions_stay n bfs_order at x r size nodes within) refl (back_again n bfs_order at r size nodes) at_nodes new_nodes v e node in
                (λ h. both.1 ((row.each e).0 h), λ h. (row.each e).1 (both.0 h));
          });
    }

-- two nodes of one new number are one
number_once : (n : ℕ) (bfs_order : List ℕ) (x y : ℕ) → IsRanking bfs_order → length bfs_order ≡ n → IsNode n x → IsNode n y → eqb x y ≡ false → eqb (number_in bfs_order x) (number_in bfs_order y) ≡ false
number_once n bfs_order x y r size first second apart =
    ne_eqb (number_in bfs_order x) (number_in bfs_order y) (λ e.
    let same : x ≡ y = sym (node_of_number bfs_order x r (rw size first)) ∙ ap (node_at bfs_order) e ∙ node_of_number bfs_order y r (rw size second) in
    eqb-false x y apart same)

numbers_differ : (n : ℕ) (bfs_order : List ℕ) (x : ℕ) (at : List ℕ) → IsRanking bfs_order → length bfs_order ≡ n → IsNode n x → All (IsNode n) at → AllByRecursion (λ y. eqb x y ≡ false) at → AllByRecursion (λ y. eqb (number_in bfs_order x) y ≡ false) (renumbered bfs_order at)
numbers_differ n bfs_order x [] r size node nodes h = tt
numbers_differ n bfs_order x (y ∷ at) r size node nodes h =
    (number_once n bfs_order x y r size node (All-head (IsNode n) y at nodes) h.0, numbers_differ n bfs_order x at r size node (All-tail (IsNode n) y at nodes) h.1)

renumbered_once : (n : ℕ) (bfs_order at : List ℕ) → IsRanking bfs_order → length bfs_order ≡ n → All (IsNode n) at → IsDistinct eqb at → IsDistinct eqb (renumbered bfs_order at)
unfolding IsDistinct
renumbered_once n bfs_order [] r size nodes once = tt
renumbered_once n bfs_order (y ∷ at) r size nodes once =
    (numbers_differ n bfs_order y at r size (All-head (IsNode n) y at nodes) (All-tail (IsNode n) y at nodes) once.0, renumbered_once n bfs_order at r size (All-tail (IsNode n) y at nodes) once.1)

-- the new numbers of a ranking are one
pub IsRanking-renumbered : (n : ℕ) (bfs_order at : List ℕ) → IsRanking bfs_order → length bfs_order ≡ n → IsRanking at → length at ≡ n → IsRanking (renumbered bfs_order at)
IsRanking-renumbered n bfs_order at r size ranking length_at =
    let nodes : All (IsNode n) at = λ k d lt. (let fits : (1 ≤ get_or at k d) × (get_or at k d ≤ length at) = ranking.node k d lt in (fits.0, omega (arith, fits.1, length_at))) in
    let many : length (renumbered bfs_order at) ≡ n = length-map at (number_in bfs_order) ∙ length_at in
    record {
      node = λ k d lt. (let fits : IsNode n (get_or (renumbered bfs_order at) k d) = renumbered_nodes n bfs_order at r size nodes k d lt in (fits.0, omega (arith, fits.1, many)));
      once = renumbered_once n bfs_order at r size nodes ranking.once;
    }

-- no edge weighs more by the new numbers
greatest_stays : (bfs_order : List ℕ) (edges : List Edge) → greatest_weight (renumbered_edges bfs_order edges) ≡ greatest_weight edges
greatest_stays bfs_order [] = refl
greatest_stays bfs_order (e ∷ edges) = ap (max e.w) (greatest_stays bfs_order edges)

pub IsGraph-renumbered : (n : ℕ) (bfs_order : List ℕ) (edges : List Edge) → IsRanking bfs_order → length bfs_order ≡ n → IsGraph n edges → IsGraph n (renumbered_edges bfs_order edges)
IsGraph-renumbered n bfs_order edges r size graph = record {
  small = graph.small;
  edge = renumbered_fits n bfs_order edges graph.edge r size;
  fits = rw (greatest_stays bfs_order edges) graph.fits;
}

-- the new numbers of one more node
pub renumbered_more : (bfs_order at : List ℕ) (p x q : ℕ) → p < length at → slice_get at p ≡ Some x → q ≡ position_of bfs_order x → renumbered bfs_order (take p at) ++ (q + 1) ∷ [] ≡ renumbered bfs_order (take (p + 1) at)
renumbered_more bfs_order at p x q lt is place =
    let last : get_or at p x ≡ x = get_or_from_slice_get at p x x is in
    sym (ap (renumbered bfs_order) (take_more at p x lt) ∙ map-append (number_in bfs_order) (take p at) (get_or at p x ∷ []) ∙ rw (last, place) refl)
