-- The lightest arcs of a row, and the edges that are put for them.
use Rattle.std.specs.Prelude.{◌↔◌, Some, slice_get}
use Rattle.std.specs.List.Sorted.{IsNonDecreasing, IsNonDecreasingBy}
use Rattle.std.proofs.Common.{◌≡◌, ◌≢◌, ◌⊎◌, ℕ, ◌+◌, ◌-◌, ◌<◌, ◌≤◌, min, List, [], ◌∷◌, ◌++◌, All, Contains, length, map, take, drop, get_or, subst, sym, ap, ◌∙◌, inl, inr, arith, suc}
use Rattle.std.proofs.lemmas.Bool.{cases_lt}
use Rattle.std.proofs.lemmas.List.{get_or-take, get_or-drop, get_or-map, get_or_default, length-take, length-drop, length-map, take_rest}
use Rattle.std.proofs.lemmas.List.Elements.{All-append, Contains-get_or, Contains-append_left, Contains-append_right}
use Rattle.std.proofs.lemmas.Option.{get_or_from_slice_get}
use Rattle.std.proofs.lemmas.Nat.{mul-le}
use Rattle.walk_laws.specs.declared.graph.Edge.{Edge}
use Rattle.walk_laws.specs.declared.graph.Arc.{Arc}
use Rattle.walk_laws.specs.Graph.{IsEdge, IsGraph, greatest_weight}
use Rattle.walk_laws.specs.Joined.{Joined}
use Rattle.walk_laws.specs.Lightest.{IsLightest, AreLightest}
use Rattle.walk_laws.specs.LightestArcs.{no_arc, FollowsItsLike, IsLeastTo, IsLeastEdge}
use Rattle.walk_laws.proofs.Members.{Contains-first}
use Rattle.walk_laws.proofs.JoinedEdges.{Joined-sym, IsEdge-joined, Joined-weight}

abbrev pub arc_to : ℕ → ℕ → Arc
arc_to t w = record { to = t; w = w }

abbrev pub edge_of : ℕ → ℕ → ℕ → Edge
edge_of x y w = record { u = x; v = y; w = w }

pub rising_by : (row : List Arc) → IsNonDecreasing (map (λ a. a.to) row) → IsNonDecreasingBy (λ a. a.to) row
rising_by row up i j d le lt =
    let at : (k : ℕ) → k < length row → get_or (map (λ (a : Arc). a.to) row) k 0 ≡ (get_or row k d).to = λ k below. get_or-map (λ (a : Arc). a.to) row k d 0 below in
    omega (arith, up i j 0 le (omega (arith, length-map row (λ (a : Arc). a.to))), at i (omega arith), at j lt)

-- the arc at a place, as it is written with its weight
pub arc_there : (row : List Arc) (i t : ℕ) (d : Arc) → i < length row → (get_or row i d).to ≡ t → Contains row (arc_to t (get_or row i d).w)
arc_there row i t d lt to = subst (λ t. Contains row (arc_to t (get_or row i d).w)) to (Contains-get_or row i d lt)

-- one more arc to the same neighbour
pub lowered_there : (row : List Arc) (i t least : ℕ) (d : Arc) → i < length row → (get_or row i d).to ≡ t → Contains row (arc_to t least) → Contains row (arc_to t (min least (get_or row i d).w))
lowered_there row i t least d lt to there =
    elim (cases_lt (get_or row i d).w least) [
      | inl lighter ↦ let is : (get_or row i d).w ≡ min least (get_or row i d).w = omega arith in subst (λ w. Contains row (arc_to t w)) is (arc_there row i t d lt to)
      | inr heavier ↦ let is : least ≡ min least (get_or row i d).w = omega arith in subst (λ w. Contains row (arc_to t w)) is there
    ]

pub lowered_least : (row : List Arc) (i least : ℕ) (d : Arc) → i < length row → All (λ (a : Arc). least ≤ a.w) (take i row) → All (λ (a : Arc). min least (get_or row i d).w ≤ a.w) (take (i + 1) row)
lowered_least row i least d lt so_far k e within =
    let below : k < i + 1 = omega (arith, length-take (i + 1) row) in
    elim (cases_lt k i) [
      | inl before ↦ omega (arith, so_far k e (omega (arith, length-take i row)), ap (λ (a : Arc). a.w) (get_or-take i row k e before), ap (λ (a : Arc). a.w) (get_or-take (i + 1) row k e below))
      | inr now ↦
          let same : k ≡ i = omega arith in
          omega (arith, ap (λ (a : Arc). a.w) (get_or-take (i + 1) row k e below), ap (λ x. (get_or row x e).w) same, ap (λ (a : Arc). a.w) (get_or_default row i e d lt))
    ]

-- where a later arc leads elsewhere, no arc after it leads to the first neighbour
pub least_of_run : (row : List Arc) (i least : ℕ) (first : Arc) → IsNonDecreasingBy (λ (a : Arc). a.to) row → slice_get row 0 ≡ Some first → (i < length row → (get_or row i no_arc).to ≢ first.to) → All (λ (a : Arc). least ≤ a.w) (take i row) → (u : ℕ) → Contains row (arc_to first.to u) → least ≤ u
least_of_run row i least first up head ends so_far u (k, within, is) =
    let here = get_or_default row k no_arc (arc_to first.to u) within ∙ is in
    elim (cases_lt k i) [
      | inl before ↦ omega (arith, so_far k no_arc (omega (arith, length-take i row)), ap (λ (a : Arc). a.w) (get_or-take i row k no_arc before), ap (λ (a : Arc). a.w) here)
      | inr later ↦
          let at_first : (get_or row 0 no_arc).to ≡ first.to = ap (λ (a : Arc). a.to) (get_or_from_slice_get row 0 first no_arc head) in
          absurd (ends (omega arith) (omega (arith, up 0 i no_arc (omega arith) (omega arith), up i k no_arc later within, ap (λ (a : Arc). a.to) here, at_first)))
    ]

-- the arcs after a place
pub rising_after : (row : List Arc) (k : ℕ) → IsNonDecreasingBy (λ (a : Arc). a.to) row → IsNonDecreasingBy (λ (a : Arc). a.to) (take (length row - k) (drop k row))
rising_after row k up = rw (take_rest row k) (λ i j d le lt. rw (get_or-drop k row i d, get_or-drop k row j d) (up (k + i) (k + j) d (omega arith) (omega (arith, length-drop k row))))

Contains-after : (row : List Arc) (k : ℕ) (a : Arc) → Contains (take (length row - k) (drop k row)) a → Contains row a
Contains-after row k a h =
    let there : Contains (drop k row) a = rw (take_rest row k) at h in
    (k + there.0, omega (arith, there.1, length-drop k row), sym (get_or-drop k row there.0 a) ∙ there.2)

-- what is least of the arcs from the first one to a neighbour is least of all
pub least_from_first : (row : List Arc) (k : ℕ) (w : ℕ) → IsNonDecreasingBy (λ (a : Arc). a.to) row → k < length row → ¬ FollowsItsLike row k → IsLeastTo (take (length row - k) (drop k row)) (get_or row k no_arc).to w → IsLeastTo row (get_or row k no_arc).to w
least_from_first row k w up lt starts l = record {
  there = Contains-after row k (arc_to (get_or row k no_arc).to w) l.there;
  least = λ u h. after u h.0 h.1 h.2;
}
  where
    after : (u j : ℕ) → j < length row → get_or row j (arc_to (get_or row k no_arc).to u) ≡ arc_to (get_or row k no_arc).to u → w ≤ u
    after u j within is =
        let to : (get_or row j no_arc).to ≡ (get_or row k no_arc).to = ap (λ (a : Arc). a.to) (get_or_default row j no_arc (arc_to (get_or row k no_arc).to u) within ∙ is) in
        elim (cases_lt j k) [
          | inl before ↦ absurd (starts (omega arith, omega (arith, to, up j (k - 1) no_arc (omega arith) (omega arith), up (k - 1) k no_arc (omega arith) lt)))
          | inr later ↦
              let there : Contains (drop k row) (arc_to (get_or row k no_arc).to u) = (j - k, omega (arith, length-drop k row), (let same : k + (j - k) ≡ j = omega arith in get_or-drop k row (j - k) (arc_to (get_or row k no_arc).to u) ∙ ap (λ i. get_or row i (arc_to (get_or row k no_arc).to u)) same ∙ is)) in
              l.least u (rw (take_rest row k) there)
        ]

-- the neighbours of the arcs so far have edges
abbrev pub HaveEdges : List Arc → ℕ → ℕ → List Edge → Type 0
HaveEdges row v k more = (j : ℕ) (d : Arc) → j < k → v < (get_or row j d).to → (u : ℕ) × Contains more (edge_of v (get_or row j d).to u)

-- an arc to a node that is no greater, or to the neighbour before
pub HaveEdges-skip : (row : List Arc) (v k : ℕ) (more : List Edge) → k < length row → ((get_or row k no_arc).to ≤ v) ⊎ FollowsItsLike row k → HaveEdges row v k more → HaveEdges row v (k + 1) more
HaveEdges-skip row v k more lt why so_far j d below above =
    elim (cases_lt j k) [
      | inl before ↦ so_far j d before above
      | inr now ↦
          let same : j ≡ k = omega arith in
          let here : (get_or row k no_arc).to ≡ (get_or row j d).to = ap (λ (a : Arc). a.to) (get_or_default row k no_arc d lt ∙ ap (λ i. get_or row i d) (sym same)) in
          elim why [
            | inl low ↦ absurd (omega (arith, low, here))
            | inr again ↦
                let found = so_far (k - 1) no_arc (omega (arith, again.0)) (omega (arith, again.1, here)) in
                (found.0, subst (λ t. Contains more (edge_of v t found.0)) (again.1 ∙ here) found.1)
          ]
    ]

-- an edge is put for the next arc
pub HaveEdges-put : (row : List Arc) (v k w : ℕ) (more : List Edge) → k < length row → HaveEdges row v k more → HaveEdges row v (k + 1) (more ++ edge_of v (get_or row k no_arc).to w ∷ [])
HaveEdges-put row v k w more lt so_far j d below above =
    let e : Edge = edge_of v (get_or row k no_arc).to w in
    elim (cases_lt j k) [
      | inl before ↦ let found = so_far j d before above in (found.0, Contains-append_left more (e ∷ []) (edge_of v (get_or row j d).to found.0) found.1)
      | inr now ↦
          let same : j ≡ k = omega arith in
          let here : (get_or row k no_arc).to ≡ (get_or row j d).to = ap (λ (a : Arc). a.to) (get_or_default row k no_arc d lt ∙ ap (λ i. get_or row i d) (sym same)) in
          (w, subst (λ t. Contains (more ++ e ∷ []) (edge_of v t w)) here (Contains-append_right more (e ∷ []) e (Contains-first e [])))
    ]

-- the arcs to a neighbour, once edges are put for all
pub HaveEdges-all : (row : List Arc) (v k : ℕ) (more : List Edge) → length row ≤ k → HaveEdges row v k more → (t w : ℕ) → v < t → Contains row (arc_to t w) → (u : ℕ) × Contains more (edge_of v t u)
HaveEdges-all row v k more all so_far t w above (j, within, is) =
    let to : (get_or row j (arc_to t w)).to ≡ t = ap (λ (a : Arc). a.to) is in
    let found = so_far j (arc_to t w) (omega arith) (omega (arith, to)) in
    (found.0, subst (λ t. Contains more (edge_of v t found.0)) to found.1)

module _ (edges : List Edge) where
  -- the edges from the nodes before v are put
  abbrev pub JoinedBelow : ℕ → List Edge → Type 0
  JoinedBelow v kept = (x y w : ℕ) → x < v → 1 ≤ x → x < y → Joined edges x y w → (u : ℕ) × Contains kept (edge_of x y u)

  module _ (row : List Arc) (v : ℕ) (joined : (t w : ℕ) → Contains row (arc_to t w) ↔ Joined edges v t w) where
    IsLightest-put : (e : Edge) → IsLeastEdge row v e → IsLightest edges e
    IsLightest-put e l = record {
      ends = omega (arith, l.from, l.rises);
      known = subst (λ x. Joined edges x e.v e.w) (sym l.from) ((joined e.v e.w).0 l.least.there);
      least = λ w h. l.least.least w ((joined e.v w).1 (subst (λ x. Joined edges x e.v w) l.from h));
    }

    pub IsLightest-more : (old more : List Edge) → All (IsLightest edges) old → All (IsLeastEdge row v) more → All (IsLightest edges) (old ++ more)
    IsLightest-more old more before now = All-append (IsLightest edges) old more before (λ k d lt. IsLightest-put (get_or more k d) (now k d lt))

    pub JoinedBelow-more : (old more : List Edge) → JoinedBelow v old → ((t w : ℕ) → v < t → Contains row (arc_to t w) → (u : ℕ) × Contains more (edge_of v t u)) → JoinedBelow (v + 1) (old ++ more)
    JoinedBelow-more old more before now x y w below from rises join =
        elim (cases_lt x v) [
          | inl earlier ↦ let found = before x y w earlier from rises join in (found.0, Contains-append_left old more (edge_of x y found.0) found.1)
          | inr here ↦
              let same : v ≡ x = omega arith in
              let found = now y w (omega arith) ((joined y w).1 (subst (λ z. Joined edges z y w) (sym same) join)) in
              (found.0, Contains-append_right old more (edge_of x y found.0) (subst (λ z. Contains more (edge_of z y found.0)) same found.1))
        ]

  lesser : (x y : ℕ) → x ≢ y → y ≤ x → y < x
  lesser x y other le = elim (cases_lt y x) [ inl lt ↦ lt | inr ge ↦ absurd (other (omega arith)) ]

  pub AreLightest-all : (n v : ℕ) (kept : List Edge) → All (IsEdge n) edges → n < v → All (IsLightest edges) kept → JoinedBelow v kept → AreLightest edges kept
  AreLightest-all n v kept all past each below = record {
    each = each;
    joined = λ x y w other join. elim (cases_lt x y) [
      | inl rises ↦ let found = below x y w (omega (arith, (IsEdge-joined n edges x y w all join).up_to_n)) (IsEdge-joined n edges x y w all join).from_one rises join in (found.0, inl found.1)
      | inr falls ↦
          let back = Joined-sym edges x y w join in
          let found = below y x w (omega (arith, (IsEdge-joined n edges y x w all back).up_to_n)) (IsEdge-joined n edges y x w all back).from_one (lesser x y other falls) back in
          (found.0, inr found.1)
    ];
  }

  heaviest_of : (kept : List Edge) → All (IsLightest edges) kept → greatest_weight kept ≤ greatest_weight edges
  heaviest_of [] each = omega arith
  heaviest_of (e ∷ kept) each = omega (arith, Joined-weight edges e.u e.v e.w (each 0 e (omega arith)).known, heaviest_of kept (λ k d lt. each (suc k) d (omega arith)))

  pub IsGraph-lightest : (n : ℕ) (kept : List Edge) → IsGraph n edges → All (IsLightest edges) kept → IsGraph n kept
  IsGraph-lightest n kept graph each = record {
    small = graph.small;
    edge = λ k d lt. let e = get_or kept k d in IsEdge-joined n edges e.u e.v e.w graph.edge (each k d lt).known;
    fits = omega (arith, mul-le n (greatest_weight kept) n (greatest_weight edges) (omega arith) (heaviest_of kept each), graph.fits);
  }
