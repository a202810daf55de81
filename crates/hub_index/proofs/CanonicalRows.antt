-- The rows of the canonical hub labelling are well formed.
use Rattle.std.proofs.Common.{◌≡◌, ℕ, ◌^◌, ◌<◌, ◌≤◌, List, [], ◌∷◌, ◌++◌, length, map, Contains, ap, subst, inl, inr, arith}
use Rattle.std.specs.Prelude.{Some, slice_get}
use Rattle.std.proofs.lemmas.List.Kept.{AllPairs-from_increasing}
use Rattle.std.proofs.lemmas.List.Elements.{All-contains_itself, All-weaker}
use Rattle.std.proofs.lemmas.Bool.{cases_lt}
use Rattle.std.proofs.lemmas.Option.{get_or_from_slice_get, slice_get_within}
use Rattle.walk_laws.specs.declared.graph.Edge.{Edge}
use Rattle.walk_laws.specs.declared.entry.Entry.{Entry}
use Rattle.walk_laws.specs.Graph.{IsGraph}
use Rattle.walk_laws.specs.Joined.{Joined}
use Rattle.walk_laws.specs.Ranking.{IsRanking, position_of}
use Rattle.walk_laws.specs.Labelling.{IsRow, IsChl, IsHubEntry, label_row}
use Rattle.walk_laws.specs.Overflow.{Overflows}
use Rattle.walk_laws.proofs.Members.{Contains-first, Contains-next, Contains-cons_cases, Contains-empty}
use Rattle.walk_laws.proofs.LabelRows.{Rises, Rises-first, Rises-rest}
use Rattle.walk_laws.proofs.Positions.{position-get_or, slice_get-position}
use Rattle.walk_laws.proofs.Walks.{HasWalk-positive}
use Rattle.walk_laws.proofs.JoinedEdges.{Joined-positive, weights_of_edges}
use Rattle.walk_laws.proofs.CanonicalHubs.{IsCanonical-itself, IsCanonical-ranked}
use Rattle.hub_index.specs.WellFormed.{own_entry, IsWellFormedRow, IsWellFormed}

-- the list ends with the element, and those before it are members with lesser numbers
pub record EndsWith {X : Type 0} (n : X → ℕ) (x : X) (xs : List X) : Type 0 where
  pub others : List X
  pub is : xs ≡ others ++ x ∷ []
  pub before : (e : X) → Contains others e → Contains xs e × (n e < n x)

module _ {X : Type 0} (n : X → ℕ) where
  alone : (x y : X) (ys : List X) → y ≡ x → Rises n (y ∷ ys) → ((e : X) → Contains (y ∷ ys) e → n e ≤ n x) → EndsWith n x (y ∷ ys)
  alone x y [] same up greatest = record { others = []; is = ap (λ z. z ∷ []) same; before = λ e none. absurd (Contains-empty e none) }
  alone x y (z ∷ zs) same up greatest =
      absurd (omega (arith, Rises-first n y z (z ∷ zs) up (Contains-first z zs), greatest z (Contains-next y z (z ∷ zs) (Contains-first z zs)), ap n same))

  after : (x y : X) (ys : List X) → Rises n (y ∷ ys) → Contains ys x → EndsWith n x ys → EndsWith n x (y ∷ ys)
  after x y ys up there rest = record { others = y ∷ rest.others; is = ap (λ zs. y ∷ zs) rest.is; before = earlier }
    where
      here : (e : X) → y ≡ e → Contains (y ∷ ys) e × (n e < n x)
      here e same = subst (λ z. Contains (y ∷ ys) z × (n z < n x)) same (Contains-first y ys, Rises-first n y x ys up there)

      earlier : (e : X) → Contains (y ∷ rest.others) e → Contains (y ∷ ys) e × (n e < n x)
      earlier e h = elim (Contains-cons_cases y e rest.others h) [ inl same ↦ here e same | inr later ↦ (Contains-next y e ys (rest.before e later).0, (rest.before e later).1) ]

  -- a rising list ends with its greatest element
  pub EndsWith-greatest : (x : X) (xs : List X) → Rises n xs → Contains xs x → ((e : X) → Contains xs e → n e ≤ n x) → EndsWith n x xs
  EndsWith-greatest x [] up there greatest = absurd (Contains-empty x there)
  EndsWith-greatest x (y ∷ ys) up there greatest =
      elim (Contains-cons_cases y x ys there) [
        | inl same ↦ alone x y ys same up greatest
        | inr later ↦ after x y ys up later (EndsWith-greatest x ys (Rises-rest n y ys up) later (λ e h. greatest e (Contains-next y e ys h)))
      ]

module _ (n : ℕ) (edges : List Edge) (at : List ℕ) (graph : IsGraph n edges) (ranking : IsRanking at) (size : length at ≡ n) (fits : Overflows (Joined edges) at → ⊥) where
  positive : (x y w : ℕ) → Joined edges x y w → 1 ≤ w
  positive = Joined-positive edges (weights_of_edges n edges graph.edge)

  position_of-hub : (p h : ℕ) → slice_get at p ≡ Some h → position_of at h ≡ p
  position_of-hub p h is =
      subst (λ y. position_of at y ≡ p) (get_or_from_slice_get at p h 0 is) (position-get_or at p 0 ranking.once (slice_get_within at p h is))

  -- no hub ranks below its node
  hub_ranked : (v : ℕ) (e : Entry) → IsHubEntry (Joined edges) at v e → e.pos ≤ position_of at v
  hub_ranked v e hub = elim (cases_lt (position_of at v) e.pos) [
    | inl below ↦ absurd (IsCanonical-ranked (Joined edges) at hub.0 v e.dist hub.2 (omega (arith, position_of-hub e.pos hub.0 hub.1)))
    | inr not_below ↦ not_below
  ]

  -- another hub is at a distance of at least 1, and of less than 2^64
  hub_far : (v : ℕ) (e : Entry) → IsHubEntry (Joined edges) at v e → e.pos < position_of at v → (1 ≤ e.dist) × (e.dist < 2 ^ 64)
  hub_far v e hub above = (
    HasWalk-positive (Joined edges) positive hub.0 v e.dist (λ same. omega (arith, ap (position_of at) same, position_of-hub e.pos hub.0 hub.1)) hub.2.least.walk,
    elim (cases_lt e.dist (2 ^ 64)) [
      | inl near ↦ near
      | inr far ↦ absurd (fits (hub.0, v, record { dist = e.dist; canonical = hub.2; far = far }))
    ],
  )

  -- the row of a node in the labelling is well formed
  IsWellFormedRow-canonical : (v : ℕ) (row : List Entry) → 1 ≤ v → v ≤ length at → IsRow (Joined edges) at v row → IsWellFormedRow at v row
  IsWellFormedRow-canonical v row from_one up_to_n is =
      let own : Contains row (own_entry at v) = (is.each (own_entry at v)).1 (v, slice_get-position at v ranking from_one up_to_n, IsCanonical-itself (Joined edges) at positive v) in
      let ends = EndsWith-greatest (λ (e : Entry). e.pos) (own_entry at v) row (AllPairs-from_increasing (map (λ e. e.pos) row) is.rising) own (λ e here. hub_ranked v e ((is.each e).0 here)) in
      record {
        rising = is.rising;
        others = ends.others;
        ends = ends.is;
        far = All-weaker (Contains ends.others) (λ e. (1 ≤ e.dist) × (e.dist < 2 ^ 64)) (λ e here. let b = ends.before e here in hub_far v e ((is.each e).0 b.0) b.1) ends.others (All-contains_itself ends.others);
      }

  -- so the labelling is well formed
  pub IsWellFormed-canonical : (rows : List (List Entry)) → IsChl (Joined edges) at rows → IsWellFormed at rows
  IsWellFormed-canonical rows chl = record {
    ranking = ranking;
    small = omega (arith, graph.small, size);
    size = chl.size;
    row = λ v from_one up_to_n. IsWellFormedRow-canonical v (label_row rows v) from_one up_to_n (chl.row v from_one up_to_n);
  }
