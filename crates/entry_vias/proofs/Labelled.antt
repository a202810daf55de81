-- The vias of the canonical hub labelling: each entry but a node's own has one, and it is the node before on a shortest walk.
use Rattle.std.specs.List.{AllZip}
use Rattle.std.proofs.Common.{◌≡◌, ◌≢◌, ◌↔◌, ℕ, ◌+◌, ◌^◌, ◌<◌, ◌≤◌, List, [], ◌∷◌, ◌++◌, All, Contains, length, slice_get, Some, refl, sym, ap, subst, ◌∙◌, inl, inr, arith}
use Rattle.std.proofs.lemmas.Bool.{cases_eq}
use Rattle.std.proofs.lemmas.Option.{same_Some}
use Rattle.std.proofs.lemmas.List.Elements.{All-nil, All-cons, All-contains, Contains-append_left, Contains-append_right}
use Rattle.std.proofs.lemmas.Slice.Zip.{AllZip-long}
use Rattle.walk_laws.specs.declared.graph.Edge.{Edge}
use Rattle.walk_laws.specs.declared.entry.Entry.{Entry}
use Rattle.walk_laws.specs.Graph.{IsEdge, IsGraph}
use Rattle.walk_laws.specs.Joined.{Joined}
use Rattle.walk_laws.specs.Least.{IsLeast}
use Rattle.walk_laws.specs.Canonical.{IsCanonical}
use Rattle.walk_laws.specs.Labelling.{IsHubEntry, label_row, IsChl}
use Rattle.walk_laws.proofs.Members.{Contains-first, Contains-next}
use Rattle.walk_laws.proofs.JoinedEdges.{Joined-sym, IsEdge-joined, Joined-positive, weights_of_edges}
use Rattle.walk_laws.proofs.Walks.{HasWalk-arc}
use Rattle.walk_laws.proofs.LeastWalks.{IsLeast-predecessor, IsLeast-same, IsLeast-unique, IsLeast-none}
use Rattle.walk_laws.proofs.OnWalks.{IsOn-from_parts}
use Rattle.walk_laws.proofs.CanonicalHubs.{IsCanonical-inherited}
use Rattle.hub_index.specs.WellFormed.{own_entry, IsWellFormedRow, IsWellFormed}
use Rattle.entry_vias.specs.Vias.{IsBefore, IsFirstBefore, IsVia}
use Rattle.entry_vias.specs.RowVias.{IsNearer, IsFirstNearer, IsRowVia, AreRowVias, AreVias, via_row, IsViaRow, HaveVias}
use Rattle.entry_vias.proofs.Existing.{IsFirstNearer-exists}

module _ (edges : List Edge) (at : List ℕ) (rows : List (List Entry)) (edge : All (IsEdge (length at)) edges) (chl : IsChl (Joined edges) at rows) where
  abbrev J : ℕ → ℕ → ℕ → Type 0
  J = Joined edges

  positive : (x y w : ℕ) → Joined edges x y w → 1 ≤ w
  positive = Joined-positive edges (weights_of_edges (length at) edges edge)

  module _ (h v : ℕ) (e : Entry) (place : slice_get at e.pos ≡ Some h) (canon : IsCanonical (Joined edges) at h v e.dist) where
    -- a neighbour that is nearer is before v on a shortest walk from the hub
    before_of : (y : ℕ) → IsNearer (Joined edges) rows v e y → IsBefore (Joined edges) h v e.dist y
    before_of y n =
        let is = IsEdge-joined (length at) edges v y n.weight edge n.arc in
        let hub = ((chl.row y is.to_one is.to_n).each (record { pos = e.pos; dist = n.dist })).0 n.there in
        let same : hub.0 ≡ h = same_Some hub.0 h (sym hub.1 ∙ place) in
        record { weight = n.weight; before = n.dist; least = (subst (λ x. IsCanonical (Joined edges) at x y n.dist) same hub.2).least; arc = Joined-sym edges v y n.weight n.arc; long = n.long }

    -- and the other way round, as the hub is one of the node before
    nearer_of : (y : ℕ) → IsBefore (Joined edges) h v e.dist y → IsNearer (Joined edges) rows v e y
    nearer_of y b =
        let is = IsEdge-joined (length at) edges y v b.weight edge b.arc in
        let on = IsOn-from_parts (Joined edges) h y v b.before b.weight b.least.walk (HasWalk-arc (Joined edges) y v b.weight b.arc) (IsLeast-same (Joined edges) h v e.dist (b.before + b.weight) (sym b.long) canon.least) in
        record {
          weight = b.weight;
          dist = b.before;
          arc = Joined-sym edges y v b.weight b.arc;
          there = ((chl.row y is.from_one is.up_to_n).each (record { pos = e.pos; dist = b.before })).1 (h, place, IsCanonical-inherited (Joined edges) at h y v b.before e.dist canon on b.least);
          long = b.long;
        }

    first_before : (y : ℕ) → IsFirstNearer (Joined edges) rows v e y → IsFirstBefore (Joined edges) h v e.dist y
    first_before y f = record { before = before_of y f.nearer; least = λ z b. f.least z (nearer_of z b) }

    first_nearer : (y : ℕ) → IsFirstBefore (Joined edges) h v e.dist y → IsFirstNearer (Joined edges) rows v e y
    first_nearer y f = record { nearer = nearer_of y f.before; least = λ z n. f.least z (before_of z n) }

    -- no neighbour is nearer than the hub itself
    none_at_hub : (z : ℕ) → e.dist ≡ 0 → IsNearer (Joined edges) rows v e z → ⊥
    none_at_hub z none n = omega (arith, n.long, none, positive v z n.weight n.arc)

    -- else one is
    some_nearer : 1 ≤ e.dist → (y : ℕ) × IsNearer (Joined edges) rows v e y
    some_nearer far =
        let other : v ≢ h = λ same. let none : 0 ≡ e.dist = IsLeast-unique (Joined edges) h v 0 e.dist (subst (λ x. IsLeast (Joined edges) h x 0) (sym same) (IsLeast-none (Joined edges) h)) canon.least in omega (arith, far, none) in
        let p = IsLeast-predecessor (Joined edges) h v e.dist canon.least other in
        (p.node, nearer_of p.node (record { weight = p.weight; before = p.before; least = p.least; arc = p.arc; long = p.long }))

    pub first_there : 1 ≤ e.dist → (y : ℕ) × IsFirstNearer (Joined edges) rows v e y
    first_there far = let some = some_nearer far in IsFirstNearer-exists edges rows v e some.0 some.1

    -- where one is, the via is the first
    first_of : (y : ℕ) → 1 ≤ e.dist → IsRowVia (Joined edges) rows v e y → IsFirstNearer (Joined edges) rows v e y
    first_of y far via = elim via [
      | inl first ↦ first
      | inr none ↦ let some = some_nearer far in absurd (none.1 some.0 some.1)
    ]

    pub tells_via : (y : ℕ) → IsRowVia (Joined edges) rows v e y ↔ IsVia (Joined edges) h v e.dist y
    tells_via y = (
      λ told. elim (cases_eq e.dist 0) [
        | inr other ↦ let far : 1 ≤ e.dist = omega (arith, other) in inr (far, first_before y (first_of y far told))
        | inl none ↦ elim told [
          | inl first ↦ absurd (none_at_hub y none first.nearer)
          | inr zero ↦ inl (none, zero.0)
        ]
      ],
      λ via. elim via [
        | inl own ↦ inr (own.1, λ z n. none_at_hub z own.0 n)
        | inr first ↦ inl (first_nearer y first.1)
      ],
    )

    -- the least neighbour that is nearer is another node of the graph
    first_is_node : (y : ℕ) → IsFirstNearer (Joined edges) rows v e y → (1 ≤ y) × (y ≤ length at) × (y ≢ v)
    first_is_node y f =
        let is = IsEdge-joined (length at) edges v y f.nearer.weight edge f.nearer.arc in (
          is.to_one,
          is.to_n,
          λ same.
              let b = before_of y f.nearer in
              let level : b.before ≡ e.dist = IsLeast-unique (Joined edges) h v b.before e.dist (subst (λ x. IsLeast (Joined edges) h x b.before) same b.least) canon.least in
              omega (arith, level, b.long, positive y v b.weight b.arc),
        )

  pub via_there : (v : ℕ) (e : Entry) → 1 ≤ v → v ≤ length at → Contains (label_row rows v) e → 1 ≤ e.dist → (y : ℕ) × IsFirstNearer (Joined edges) rows v e y
  via_there v e from_one up_to_n there far = let is = ((chl.row v from_one up_to_n).each e).0 there in first_there is.0 v e is.1 is.2 far

  pub rows_tell : (h v y : ℕ) (e : Entry) → 1 ≤ v → v ≤ length at → Contains (label_row rows v) e → slice_get at e.pos ≡ Some h → IsRowVia (Joined edges) rows v e y ↔ IsVia (Joined edges) h v e.dist y
  rows_tell h v y e from_one up_to_n there place =
      let is = ((chl.row v from_one up_to_n).each e).0 there in
      let same : is.0 ≡ h = same_Some is.0 h (sym is.1 ∙ place) in
      tells_via h v e place (subst (λ x. IsCanonical (Joined edges) at x v e.dist) same is.2) y

  -- ---- the vias may stand beside the rows

  -- the list beside a list ends with what is beside its last element
  record EndsBeside {X Y : Type 0} (R : X → Y → Type 0) (xs : List X) (x : X) (ys : List Y) : Type 0 where
    others : List Y
    last : Y
    ends : ys ≡ others ++ last ∷ []
    beside : AllZip R xs others
    of_last : R x last

  ends_beside : {X Y : Type 0} (R : X → Y → Type 0) (xs : List X) (x : X) (ys : List Y) → AllZip R (xs ++ x ∷ []) ys → EndsBeside R xs x ys
  ends_beside R [] x [] all = absurd all
  ends_beside R [] x (y ∷ []) all = record { others = []; last = y; ends = refl; beside = tt; of_last = all.0 }
  ends_beside R [] x (y ∷ z ∷ ys) all = absurd all.1
  ends_beside R (w ∷ xs) x [] all = absurd all
  ends_beside R (w ∷ xs) x (y ∷ ys) all =
      let rest = ends_beside R xs x ys all.1 in
      record { others = y ∷ rest.others; last = rest.last; ends = ap (λ l. y ∷ l) rest.ends; beside = (all.0, rest.beside); of_last = rest.of_last }

  all_beside : {X Y : Type 0} (R : X → Y → Type 0) (P : Y → Type 0) (xs : List X) (ys : List Y) → ((x : X) (y : Y) → Contains xs x → R x y → P y) → AllZip R xs ys → All P ys
  all_beside R P [] [] each all = All-nil P
  all_beside R P [] (y ∷ ys) each all = absurd all
  all_beside R P (x ∷ xs) [] each all = absurd all
  all_beside R P (x ∷ xs) (y ∷ ys) each all =
      All-cons P y ys (each x y (Contains-first x xs) all.0) (all_beside R P xs ys (λ z t there. each z t (Contains-next x z xs there)) all.1)

  module _ (well : IsWellFormed at rows) (vias : List (List ℕ)) (are : AreVias (Joined edges) rows vias) (v : ℕ) (from_one : 1 ≤ v) (up_to_n : v ≤ length at) where
    row_vias : AreRowVias (Joined edges) rows v (via_row vias v)
    row_vias = are.row v from_one (omega (arith, up_to_n, well.size))

    is_row : IsWellFormedRow at v (label_row rows v)
    is_row = well.row v from_one up_to_n

    hub_of : (e : Entry) → Contains (label_row rows v) e → IsHubEntry (Joined edges) at v e
    hub_of e there = ((chl.row v from_one up_to_n).each e).0 there

    pub via_row_is : IsViaRow (length rows) v (label_row rows v) (via_row vias v)
    via_row_is =
        let own = own_entry at v in
        let R = IsRowVia (Joined edges) rows v in
        let IsOther : ℕ → Type 0 = λ y. (1 ≤ y) × (y ≤ length rows) × (y ≢ v) in
        let parts = ends_beside R is_row.others own (via_row vias v) (subst (λ row. AllZip R row (via_row vias v)) is_row.ends row_vias) in
        let there : Contains (label_row rows v) own = subst (λ row. Contains row own) (sym is_row.ends) (Contains-append_right is_row.others (own ∷ []) own (Contains-first own [])) in
        let hub = hub_of own there in
        let zero : parts.last ≡ 0 = elim parts.of_last [ inl first ↦ absurd (none_at_hub hub.0 v own hub.1 hub.2 parts.last refl first.nearer) | inr none ↦ none.0 ] in
        record {
          size = AllZip-long R (label_row rows v) (via_row vias v) row_vias;
          others = parts.others;
          ends = parts.ends ∙ ap (λ z. parts.others ++ z ∷ []) zero;
          node = all_beside R IsOther is_row.others parts.others (λ e y here via.
              let in_row : Contains (label_row rows v) e = subst (λ row. Contains row e) (sym is_row.ends) (Contains-append_left is_row.others (own ∷ []) e here) in
              let is = hub_of e in_row in
              let far : 1 ≤ e.dist = (All-contains (λ (x : Entry). (1 ≤ x.dist) × (x.dist < 2 ^ 64)) is_row.others e is_row.far here).0 in
              let node = first_is_node is.0 v e is.1 is.2 y (first_of is.0 v e is.1 is.2 y far via) in
              (node.0, omega (arith, node.1, well.size), node.2)) parts.beside;
        }

-- the vias of the labelling of a graph may stand beside its rows, where these are well formed
pub HaveVias-canonical : (n : ℕ) (edges : List Edge) (at : List ℕ) (rows : List (List Entry)) (vias : List (List ℕ)) → IsGraph n edges → IsWellFormed at rows → length at ≡ n → IsChl (Joined edges) at rows → AreVias (Joined edges) rows vias → HaveVias rows vias
HaveVias-canonical n edges at rows vias graph well size chl are =
    let edge : All (IsEdge (length at)) edges = subst (λ k. All (IsEdge k) edges) (sym size) graph.edge in
    record {
      size = are.size;
      row = λ v from_one up_to_n. via_row_is edges at rows edge chl well vias are v from_one (omega (arith, up_to_n, well.size));
    }
