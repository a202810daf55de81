-- The arcs at a node are the edges that end there.
use Rattle.std.specs.Prelude.{◌≡◌, ◌↔◌, ℕ, ◌-◌, ◌<◌, ◌≤◌, ◌==◌, Bool, true, false, List, [], ◌∷◌, ◌++◌, length, Contains, slice_range, if◌then◌else◌, refl}
use Rattle.std.specs.List.Sorted.{IsNonDecreasing}
use Rattle.std.proofs.Common.{◌∙◌, ap, sym, subst, inl, inr, arith, cond, append_assoc, zero, suc, get_or}
use Rattle.std.proofs.lemmas.Bool.{eqb-true, eq-eqb}
use Rattle.std.proofs.lemmas.List.{get_or_read}
use Rattle.std.proofs.lemmas.List.Elements.{Contains-append_left, Contains-append_right, Contains-append_cases}
use Rattle.walk_laws.specs.declared.graph.Edge.{Edge}
use Rattle.walk_laws.specs.declared.graph.Arc.{Arc}
use Rattle.walk_laws.specs.Graph.{IsRowOf, arcs_at}
use Rattle.walk_laws.specs.Joined.{Joined}
use Rattle.walk_laws.proofs.StoredRows.{IsStored}
use Rattle.walk_laws.proofs.Members.{Contains-first, Contains-next, Contains-cons_cases}
use Rattle.walk_laws.proofs.Filters.{Contains-filter, Contains-from_filter}

pub arcs_at-append : (xs ys : List Edge) (v : ℕ) → arcs_at (xs ++ ys) v ≡ arcs_at xs v ++ arcs_at ys v
arcs_at-append [] ys v = refl
arcs_at-append (e ∷ xs) ys v = rw (arcs_at-append xs ys v) (simp append_assoc)

-- what a list of one element at most contains
Contains-if : {X : Type 0} (b : Bool) (y x : X) → Contains (cond b (y ∷ []) []) x → (b ≡ true) × (y ≡ x)
Contains-if true y x (zero, lt, is) = (refl, is)
Contains-if true y x (suc k, lt, is) = absurd (omega arith)
Contains-if false y x h = absurd (omega arith)

Contains-if_true : {X : Type 0} (b : Bool) (x : X) → b ≡ true → Contains (cond b (x ∷ []) []) x
Contains-if_true b x h = rw h (Contains-first x [])

abbrev edge : ℕ → ℕ → ℕ → Edge
edge u v w = record { u = u; v = v; w = w }

abbrev arc : ℕ → ℕ → Arc
arc t w = record { to = t; w = w }

-- the arcs of one edge: by its first end, and by its second
abbrev by_first : Edge → ℕ → List Arc
by_first e v = if e.u == v then arc e.v e.w ∷ [] else []

abbrev by_second : Edge → ℕ → List Arc
by_second e v = if e.v == v then arc e.u e.w ∷ [] else []

-- an edge is its fields
same_edge : (e : Edge) (u v w : ℕ) → e.u ≡ u → e.v ≡ v → e.w ≡ w → e ≡ edge u v w
same_edge e u v w a b c = ap (λ x. edge x e.v e.w) a ∙ ap (λ x. edge u x e.w) b ∙ ap (edge u v) c

joined_first : (e : Edge) (edges : List Edge) (v t w : ℕ) → Contains (by_first e v) (arc t w) → Joined (e ∷ edges) v t w
joined_first e edges v t w h =
    let p = Contains-if (e.u == v) (arc e.v e.w) (arc t w) h in
    inl (subst (λ x. Contains (e ∷ edges) x) (same_edge e v t w (eqb-true e.u v p.0) (ap (λ a. a.to) p.1) (ap (λ a. a.w) p.1)) (Contains-first e edges))

joined_second : (e : Edge) (edges : List Edge) (v t w : ℕ) → Contains (by_second e v) (arc t w) → Joined (e ∷ edges) v t w
joined_second e edges v t w h =
    let p = Contains-if (e.v == v) (arc e.u e.w) (arc t w) h in
    inr (subst (λ x. Contains (e ∷ edges) x) (same_edge e t v w (ap (λ a. a.to) p.1) (eqb-true e.v v p.0) (ap (λ a. a.w) p.1)) (Contains-first e edges))

joined_next : (e : Edge) (edges : List Edge) (x y w : ℕ) → Joined edges x y w → Joined (e ∷ edges) x y w
joined_next e edges x y w h =
    elim h [
      | inl one_way ↦ inl (Contains-next e (edge x y w) edges one_way)
      | inr other_way ↦ inr (Contains-next e (edge y x w) edges other_way)
    ]

-- each arc at v is an edge that ends there
pub Joined-from_arcs_at : (edges : List Edge) (v t w : ℕ) → Contains (arcs_at edges v) (record { to = t; w = w }) → Joined edges v t w
Joined-from_arcs_at [] v t w h = absurd (omega arith)
Joined-from_arcs_at (e ∷ edges) v t w h =
    elim (Contains-append_cases (by_first e v) (by_second e v ++ arcs_at edges v) (arc t w) h) [
      | inl first ↦ joined_first e edges v t w first
      | inr others ↦ elim (Contains-append_cases (by_second e v) (arcs_at edges v) (arc t w) others) [
        | inl second ↦ joined_second e edges v t w second
        | inr rest ↦ joined_next e edges v t w (Joined-from_arcs_at edges v t w rest)
      ]
    ]

arc_first : (edges : List Edge) (v t w : ℕ) → Contains (arcs_at (edge v t w ∷ edges) v) (arc t w)
arc_first edges v t w =
    Contains-append_left (by_first (edge v t w) v) (by_second (edge v t w) v ++ arcs_at edges v) (arc t w) (Contains-if_true (v == v) (arc t w) (eq-eqb v v refl))

arc_second : (edges : List Edge) (v t w : ℕ) → Contains (arcs_at (edge t v w ∷ edges) v) (arc t w)
arc_second edges v t w =
    Contains-append_right (by_first (edge t v w) v) (by_second (edge t v w) v ++ arcs_at edges v) (arc t w) (Contains-append_left (by_second (edge t v w) v) (arcs_at edges v) (arc t w) (Contains-if_true (v == v) (arc t w) (eq-eqb v v refl)))

arc_next : (e : Edge) (edges : List Edge) (v : ℕ) (a : Arc) → Contains (arcs_at edges v) a → Contains (arcs_at (e ∷ edges) v) a
arc_next e edges v a h =
    Contains-append_right (by_first e v) (by_second e v ++ arcs_at edges v) a (Contains-append_right (by_second e v) (arcs_at edges v) a h)

-- each edge that ends at v is an arc there
pub Contains-arcs_at : (edges : List Edge) (v t w : ℕ) → Joined edges v t w → Contains (arcs_at edges v) (record { to = t; w = w })
Contains-arcs_at [] v t w h = elim h [ inl one_way ↦ absurd (omega arith) | inr other_way ↦ absurd (omega arith) ]
Contains-arcs_at (e ∷ edges) v t w h =
    elim h [
      | inl one_way ↦ elim (Contains-cons_cases e (edge v t w) edges one_way) [
        | inl here ↦ subst (λ x. Contains (arcs_at (x ∷ edges) v) (arc t w)) (sym here) (arc_first edges v t w)
        | inr later ↦ arc_next e edges v (arc t w) (Contains-arcs_at edges v t w (inl later))
      ]
      | inr other_way ↦ elim (Contains-cons_cases e (edge t v w) edges other_way) [
        | inl here ↦ subst (λ x. Contains (arcs_at (x ∷ edges) v) (arc t w)) (sym here) (arc_second edges v t w)
        | inr later ↦ arc_next e edges v (arc t w) (Contains-arcs_at edges v t w (inr later))
      ]
    ]

-- a row has the arcs that it is a row of
pub Contains-row : (arcs row : List Arc) (a : Arc) → IsRowOf arcs row → Contains row a ↔ Contains arcs a
Contains-row arcs row a r =
    (λ h. Contains-from_filter (λ b. b.to == a.to) arcs a (subst (λ l. Contains l a) (r.each a.to) (Contains-filter (λ b. b.to == a.to) row a (eq-eqb a.to a.to refl) h)), λ h. Contains-from_filter (λ b. b.to == a.to) row a (subst (λ l. Contains l a) (sym (r.each a.to)) (Contains-filter (λ b. b.to == a.to) arcs a (eq-eqb a.to a.to refl) h)))

-- the arcs of a row are the edges that end at its node
pub Joined-row : (edges : List Edge) (v : ℕ) (row : List Arc) → IsRowOf (arcs_at edges v) row → (t w : ℕ) → Contains row (record { to = t; w = w }) ↔ Joined edges v t w
Joined-row edges v row r t w =
    let same = Contains-row (arcs_at edges v) row (arc t w) r in
    (λ h. Joined-from_arcs_at edges v t w (same.0 h), λ h. same.1 (Contains-arcs_at edges v t w h))

-- between two starts stands a row
pub IsRowOf-between : (n : ℕ) (edges : List Edge) (arcs : List Arc) (starts : List ℕ) → IsStored n edges arcs starts → (v a b : ℕ) → 1 ≤ v → v < length starts → a ≡ get_or starts (v - 1) a → b ≡ get_or starts v b → IsRowOf (arcs_at edges v) (slice_range arcs a b)
IsRowOf-between n edges arcs starts stored v a b low high from up_to =
    let from_is = get_or_read starts (v - 1) a (omega arith) from 0 in
    let to_is = get_or_read starts v b high up_to 0 in
    rw (from_is, to_is) (stored.3 v low high)

-- a row ends no earlier than it begins
pub between_rises : (starts : List ℕ) (v a b : ℕ) → IsNonDecreasing starts → v < length starts → a ≡ get_or starts (v - 1) a → b ≡ get_or starts v b → a ≤ b
between_rises starts v a b rising high from up_to =
    omega (arith, get_or_read starts (v - 1) a (omega arith) from 0, get_or_read starts v b high up_to 0, rising (v - 1) v 0 (omega arith) high)
