-- Entries whose distance is not below a limit: where the first of a row stands, and what it is in a canonical hub labelling.
use Rattle.std.proofs.Common.{◌≡◌, ◌⊎◌, ℕ, suc, ◌+◌, ◌^◌, ◌<◌, ◌≤◌, List, [], ◌∷◌, ◌++◌, All, Contains, length, map, get_or, take, drop, sym, ap, subst, inl, inr, ◌∙◌, append_assoc, arith}
use Rattle.std.specs.Prelude.{Some, slice_get}
use Rattle.std.proofs.lemmas.List.{map-append}
use Rattle.std.proofs.lemmas.List.Kept.{AllPairs-from_increasing}
use Rattle.std.proofs.lemmas.List.Elements.{All-append, All-map, All-weaker, All-contains, Contains-append_right, Contains-append_cases}
use Rattle.std.proofs.Math.Seq.{split_at}
use Rattle.std.proofs.lemmas.Bool.{cases_lt}
use Rattle.std.proofs.lemmas.Option.{slice_get_within, get_or_from_slice_get}
use Rattle.walk_laws.specs.declared.graph.Edge.{Edge}
use Rattle.walk_laws.specs.declared.entry.Entry.{Entry}
use Rattle.walk_laws.specs.Graph.{IsGraph}
use Rattle.walk_laws.specs.Joined.{Joined}
use Rattle.walk_laws.specs.Walk.{HasWalk, Step, IsWalk, walk_length}
use Rattle.walk_laws.specs.Canonical.{IsCanonical}
use Rattle.walk_laws.specs.Ranking.{IsRanking, position_of}
use Rattle.walk_laws.specs.Labelling.{IsChl, label_row}
use Rattle.walk_laws.specs.Overflow.{IsTooFar, Overflows, IsFirstTooFar}
use Rattle.walk_laws.proofs.Members.{Contains-cons_cases, Contains-first}
use Rattle.walk_laws.proofs.LabelRows.{Rises, Rises-first, Rises-rest}
use Rattle.walk_laws.proofs.Positions.{position-get_or, slice_get-position}
use Rattle.walk_laws.proofs.JoinedEdges.{IsEdge-joined}
use Rattle.walk_laws.proofs.ShortWalks.{HasWalk-node}
use Rattle.hub_index.specs.NodeEntries.{entry_of}
use Rattle.hub_index.specs.Reach.{IsBelow, IsFirstFrom, AreBelow, IsFirstOfRows}
use Rattle.hub_index.specs.CompactRows.{widened}
use Rattle.hub_index.specs.WellFormed.{IsWellFormed}
use Rattle.hub_index.specs.declared.compact_row.CompactEntry.{CompactEntry}
use Rattle.hub_index.specs.declared.node_entry.NodeEntry.{NodeEntry}
use Rattle.hub_index.proofs.CompactEntries.{all_widened}
use Rattle.hub_index.proofs.CanonicalRows.{IsWellFormed-canonical}

Rises-suffix : {X : Type 0} (n : X → ℕ) (xs ys : List X) → Rises n (xs ++ ys) → Rises n ys
Rises-suffix n [] ys rises = rises
Rises-suffix n (x ∷ xs) ys rises = Rises-suffix n xs ys (Rises-rest n x (xs ++ ys) rises)

-- in a row that rises, no entry that is not below the limit stands at a lesser position than the first one
least_position : (limit : ℕ) (row : List Entry) (e x : Entry) → Rises (λ (y : Entry). y.pos) row → IsFirstFrom limit row e → Contains row x → limit ≤ x.dist → e.pos ≤ x.pos
least_position limit row e x rises first there far =
    elim (Contains-append_cases first.before (e ∷ first.after) x (subst (λ es. Contains es x) first.row_is there)) [
      | inl earlier ↦ absurd (omega (arith, All-contains (IsBelow limit) first.before x first.below earlier, far))
      | inr rest ↦ elim (Contains-cons_cases e x first.after rest) [
        | inl same ↦ omega (arith, ap (λ (y : Entry). y.pos) same)
        | inr later ↦
            let up = Rises-suffix (λ (y : Entry). y.pos) first.before (e ∷ first.after) (subst (Rises (λ (y : Entry). y.pos)) first.row_is rises) in
            omega (arith, Rises-first (λ (y : Entry). y.pos) e x first.after up later)
      ]
    ]

-- the first entry stands in the row
Contains-first_from : (limit : ℕ) (row : List Entry) (e : Entry) → IsFirstFrom limit row e → Contains row e
Contains-first_from limit row e first =
    subst (λ es. Contains es e) (sym first.row_is) (Contains-append_right first.before (e ∷ first.after) e (Contains-first e first.after))

-- more entries after the row change nothing of it
pub IsFirstFrom-prefix : (limit : ℕ) (row more : List Entry) (e : Entry) → IsFirstFrom limit row e → IsFirstFrom limit (row ++ more) e
IsFirstFrom-prefix limit row more e first = record {
  before = first.before;
  after = first.after ++ more;
  row_is = ap (λ es. es ++ more) first.row_is ∙ append_assoc first.before (e ∷ first.after) more;
  below = first.below;
  far = first.far;
}

-- nor do entries before it that are below the limit
pub IsFirstFrom-suffix : (limit : ℕ) (others row : List Entry) (e : Entry) → All (IsBelow limit) others → IsFirstFrom limit row e → IsFirstFrom limit (others ++ row) e
IsFirstFrom-suffix limit others row e below first = record {
  before = others ++ first.before;
  after = first.after;
  row_is = ap (λ es. others ++ es) first.row_is ∙ sym (append_assoc others first.before (e ∷ first.after));
  below = All-append (IsBelow limit) others first.before below first.below;
  far = first.far;
}

-- the entry at which a loop along the row stops
pub IsFirstFrom-at : (limit : ℕ) (row : List Entry) (i : ℕ) (d : Entry) → i < length row → All (IsBelow limit) (take i row) → limit ≤ (get_or row i d).dist → IsFirstFrom limit row (get_or row i d)
IsFirstFrom-at limit row i d lt below far = record {
  before = take i row;
  after = drop (suc i) row;
  row_is = split_at row i d lt;
  below = below;
  far = far;
}

pub IsFirstFrom-compact : (limit : ℕ) (row : List CompactEntry) (i : ℕ) (d : CompactEntry) → i < length row → All (λ e. IsBelow limit (widened e)) (take i row) → limit ≤ (get_or row i d).dist → IsFirstFrom limit (all_widened row) (widened (get_or row i d))
IsFirstFrom-compact limit row i d lt below far = record {
  before = all_widened (take i row);
  after = all_widened (drop (suc i) row);
  row_is = ap all_widened (split_at row i d lt) ∙ map-append (λ e. widened e) (take i row) (get_or row i d ∷ drop (suc i) row);
  below = All-map (IsBelow limit) (λ e. widened e) (take i row) below;
  far = far;
}

-- along the rows
pub below_next : (limit : ℕ) (rows : List (List Entry)) (k : ℕ) → ((v : ℕ) → 1 ≤ v → v ≤ k → All (IsBelow limit) (label_row rows v)) → All (IsBelow limit) (label_row rows (k + 1)) → (v : ℕ) → 1 ≤ v → v ≤ k + 1 → All (IsBelow limit) (label_row rows v)
below_next limit rows k before here v from_one up_to = elim (cases_lt k v) [
  | inl last ↦ let same : k + 1 ≡ v = omega (arith, last, up_to) in subst (λ x. All (IsBelow limit) (label_row rows x)) same here
  | inr earlier ↦ before v from_one earlier
]

pub AreBelow-more : (limit more : ℕ) (rows : List (List Entry)) → limit ≤ more → AreBelow limit rows → AreBelow more rows
AreBelow-more limit more rows le below v from_one up_to = All-weaker (IsBelow limit) (IsBelow more) (λ e b. omega (arith, le, b)) (label_row rows v) (below v from_one up_to)

-- the row at which a loop along the rows stops
pub IsFirstOfRows-at : (limit : ℕ) (rows : List (List Entry)) (k : ℕ) (e : Entry) → k < length rows → ((v : ℕ) → 1 ≤ v → v ≤ k → All (IsBelow limit) (label_row rows v)) → IsFirstFrom limit (label_row rows (k + 1)) e → IsFirstOfRows limit rows (record { node = k + 1; pos = e.pos; dist = e.dist })
IsFirstOfRows-at limit rows k e lt before first = record {
  node = record { from_one = omega arith; up_to_n = omega (arith, lt) };
  first = first;
  before = λ v from_one below. before v from_one (omega (arith, below));
}

module _ (n : ℕ) (edges : List Edge) (at : List ℕ) (rows : List (List Entry)) (graph : IsGraph n edges) (ranking : IsRanking at) (size : length at ≡ n) (chl : IsChl (Joined edges) at rows) where
  -- a walk that is not empty leads from a node
  begins : (steps : List Step) (u v : ℕ) → IsWalk (Joined edges) u steps v → 1 ≤ walk_length steps → (1 ≤ u) × (u ≤ n)
  begins [] u v walk some = absurd (omega (arith, some))
  begins (s ∷ steps) u v walk some =
      let edge = IsEdge-joined n edges s.from s.to s.weight graph.edge walk.1 in
      subst (λ x. (1 ≤ x) × (x ≤ n)) walk.0 (edge.from_one, edge.up_to_n)

  ends_are_nodes : (u v d : ℕ) → HasWalk (Joined edges) u v d → 1 ≤ d → ((1 ≤ u) × (u ≤ n)) × ((1 ≤ v) × (v ≤ n))
  ends_are_nodes u v d walk some =
      let first = begins walk.steps u v walk.walk (omega (arith, walk.long, some)) in
      (first, HasWalk-node n edges graph.edge u v d first.0 first.1 walk)

  -- a hub that is too far has an entry in the row of its node
  record Kept (h v d : ℕ) : Type 0 where
    pub from_one : 1 ≤ v
    pub up_to_n : v ≤ length at
    pub there : Contains (label_row rows v) (record { pos = position_of at h; dist = d })

  kept : (h v d : ℕ) → IsCanonical (Joined edges) at h v d → 1 ≤ d → Kept h v d
  kept h v d canonical some =
      let nodes = ends_are_nodes h v d canonical.least.walk some in
      let up_to_n : v ≤ length at = omega (arith, nodes.1.1, size) in
      record {
        from_one = nodes.1.0;
        up_to_n = up_to_n;
        there = ((chl.row v nodes.1.0 up_to_n).each (record { pos = position_of at h; dist = d })).1 (h, slice_get-position at h ranking nodes.0.0 (omega (arith, nodes.0.1, size)), canonical);
      }

  -- where each entry is near, no hub is too far
  pub no_overflow : AreBelow (2 ^ 64) rows → Overflows (Joined edges) at → ⊥
  no_overflow below (h, v, far) =
      let k = kept h v far.dist far.canonical (omega (arith, far.far)) in
      omega (arith, far.far, All-contains (IsBelow (2 ^ 64)) (label_row rows v) _ (below v k.from_one (omega (arith, k.up_to_n, chl.size))) k.there)

  -- so the labelling is well formed
  pub IsWellFormed-below : AreBelow (2 ^ 64) rows → IsWellFormed at rows
  IsWellFormed-below below = IsWellFormed-canonical n edges at graph ranking size (no_overflow below) rows chl

  -- the hub of the first entry that is not near has a position
  pub far_position : (e : NodeEntry) → IsFirstOfRows (2 ^ 64) rows e → e.pos < length at
  far_position e is =
      let entry = ((chl.row e.node is.node.from_one (omega (arith, is.node.up_to_n, chl.size))).each (entry_of e)).0 (Contains-first_from (2 ^ 64) (label_row rows e.node) (entry_of e) is.first) in
      slice_get_within at e.pos entry.0 entry.1

  -- the first entry that is not near is that of the first hub that is too far
  pub first_too_far : (e : NodeEntry) (h : ℕ) → IsFirstOfRows (2 ^ 64) rows e → slice_get at e.pos ≡ Some h → IsFirstTooFar (Joined edges) at h e.node
  first_too_far e h is hub =
      let up_to_n : e.node ≤ length at = omega (arith, is.node.up_to_n, chl.size) in
      let entry = ((chl.row e.node is.node.from_one up_to_n).each (entry_of e)).0 (Contains-first_from (2 ^ 64) (label_row rows e.node) (entry_of e) is.first) in
      let same : entry.0 ≡ h = sym (get_or_from_slice_get at e.pos entry.0 0 entry.1) ∙ get_or_from_slice_get at e.pos h 0 hub in
      let place : position_of at h ≡ e.pos = subst (λ y. position_of at y ≡ e.pos) (get_or_from_slice_get at e.pos h 0 hub) (position-get_or at e.pos 0 ranking.once (slice_get_within at e.pos h hub)) in
      record {
        there = record { dist = e.dist; canonical = subst (λ x. IsCanonical (Joined edges) at x e.node e.dist) same entry.2; far = is.first.far };
        first = λ k w far. later k w far place;
      }
    where
      later : (k w : ℕ) → IsTooFar (Joined edges) at k w → position_of at h ≡ e.pos → (e.node < w) ⊎ ((e.node ≡ w) × (position_of at h ≤ position_of at k))
      later k w far place =
          let other = kept k w far.dist far.canonical (omega (arith, far.far)) in
          elim (cases_lt e.node w) [
            | inl below ↦ inl below
            | inr not_below ↦ elim (cases_lt w e.node) [
              | inl above ↦ absurd (omega (arith, far.far, All-contains (IsBelow (2 ^ 64)) (label_row rows w) _ (is.before w other.from_one above) other.there))
              | inr not_above ↦
                  let here : w ≡ e.node = omega (arith, not_below, not_above) in
                  let row = label_row rows e.node in
                  let rises = AllPairs-from_increasing (map (λ (x : Entry). x.pos) row) (chl.row e.node is.node.from_one (omega (arith, is.node.up_to_n, chl.size))).rising in
                  inr (sym here, omega (arith, place, least_position (2 ^ 64) row (entry_of e) (record { pos = position_of at k; dist = far.dist }) rises is.first (subst (λ x. Contains (label_row rows x) (record { pos = position_of at k; dist = far.dist })) here other.there) far.far))
            ]
          ]
