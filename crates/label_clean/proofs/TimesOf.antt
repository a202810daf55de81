-- Which entries of a list are a node's, how often a position stands among entries, and what stands in lists that are joined.
use Rattle.std.proofs.Common.{◌≡◌, ◌≢◌, ℕ, ◌+◌, ◌≤◌, eqb, ◌==◌, if◌then◌else◌, inl, inr, List, [], ◌∷◌, ◌++◌, Contains, map, flat_map, refl, sym, ap, subst, ◌∙◌, arith}
use Rattle.std.specs.List.{sum_by}
use Rattle.std.proofs.lemmas.Bool.{eq-eqb, ne_eqb}
use Rattle.std.proofs.lemmas.Bool.Decides.{eqb_tells}
use Rattle.std.proofs.lemmas.List.Concat.{flat_map-cons}
use Rattle.std.proofs.lemmas.List.Elements.{Contains-append_left, Contains-append_right, Contains-append_cases}
use Rattle.std.proofs.lemmas.List.Sums.{sum_by-append, sum_by-cons}
use Rattle.std.proofs.lemmas.Map.Keys.{IsDistinct-tail}
use Rattle.walk_laws.specs.declared.entry.Entry.{Entry}
use Rattle.walk_laws.proofs.Members.{Contains-first, Contains-next, Contains-cons_cases, Contains-empty}
use Rattle.hub_index.specs.declared.node_entry.NodeEntry.{NodeEntry}
use Rattle.hub_index.specs.NodeEntries.{entries_of_node, entry_if, entry_of}
use Rattle.hub_index.proofs.GatheredRows.{entries_of_node-append, entries_of_node-one, entry_if-same, entry_if-other}
use Rattle.label_clean.specs.RawRows.{HasEachOnce}
use Rattle.label_clean.proofs.Covering.{pos_of}
use Rattle.label_clean.proofs.RowFacts.{first_apart}

abbrev pub node_entry : ℕ → Entry → NodeEntry
node_entry v e = record { node = v; pos = e.pos; dist = e.dist }

-- a node's entries, of a list that has one entry more in front
of_cons : (x : NodeEntry) (es : List NodeEntry) (v : ℕ) → entries_of_node (x ∷ es) v ≡ entry_if x.node v (entry_of x) ++ entries_of_node es v
of_cons x es v = entries_of_node-append (x ∷ []) es v ∙ ap (λ ys. ys ++ entries_of_node es v) (entries_of_node-one x v)

-- an entry of the list is one of its node
pub to_node : (es : List NodeEntry) (x : NodeEntry) → Contains es x → Contains (entries_of_node es x.node) (entry_of x)
to_node [] x there = absurd (Contains-empty x there)
to_node (y ∷ es) x there =
    subst (λ ys. Contains ys (entry_of x)) (sym (of_cons y es x.node))
    (elim (Contains-cons_cases y x es there) [
      | inl same ↦
          Contains-append_left (entry_if y.node x.node (entry_of y)) (entries_of_node es x.node) (entry_of x)
          (subst (λ (z : NodeEntry). Contains (entry_if z.node x.node (entry_of z)) (entry_of x)) (sym same) (subst (λ ys. Contains ys (entry_of x)) (sym (entry_if-same x.node (entry_of x))) (Contains-first (entry_of x) [])))
      | inr later ↦ Contains-append_right (entry_if y.node x.node (entry_of y)) (entries_of_node es x.node) (entry_of x) (to_node es x later)
    ])

-- and an entry of a node is one of the list
pub of_node : (es : List NodeEntry) (v : ℕ) (e : Entry) → Contains (entries_of_node es v) e → Contains es (node_entry v e)
of_node [] v e there = absurd (Contains-empty e there)
of_node (y ∷ es) v e there = elim (Contains-append_cases (entry_if y.node v (entry_of y)) (entries_of_node es v) e (subst (λ ys. Contains ys e) (of_cons y es v) there)) [
  | inr later ↦ Contains-next y (node_entry v e) es (of_node es v e later)
  | inl here ↦ elim (eqb_tells y.node v) [
    | inr other ↦ absurd (Contains-empty e (subst (λ ys. Contains ys e) (entry_if-other y.node v (entry_of y) other.1) here))
    | inl same ↦
        let one : Contains (entry_of y ∷ []) e = subst (λ ys. Contains ys e) (entry_if-same v (entry_of y)) (subst (λ u. Contains (entry_if u v (entry_of y)) e) same.1 here) in
        elim (Contains-cons_cases (entry_of y) e [] one) [
          | inl is ↦ subst (λ x. Contains (y ∷ es) x) (ap (λ u. node_entry u (entry_of y)) same.1 ∙ ap (node_entry v) is) (Contains-first y es)
          | inr none ↦ absurd (Contains-empty e none)
        ]
  ]
]

abbrev pub one_if : ℕ → Entry → ℕ
one_if q e = if e.pos == q then 1 else 0

module _ (q : ℕ) where
  at_pos : (e : Entry) → e.pos ≡ q → one_if q e ≡ 1
  at_pos e is = rw (eq-eqb e.pos q is) refl

  off_pos : (e : Entry) → e.pos ≢ q → one_if q e ≡ 0
  off_pos e other = rw (ne_eqb e.pos q other) refl

  none_there : (es : List Entry) → ((e : Entry) → Contains es e → e.pos ≢ q) → sum_by (one_if q) es ≡ 0
  none_there [] apart = refl
  none_there (e ∷ es) apart = omega (arith, sum_by-cons (one_if q) e es, off_pos e (apart e (Contains-first e es)), none_there es (λ f h. apart f (Contains-next e f es h)))

  -- no two entries of one position: there is one at most
  pub at_most_one : (es : List Entry) → HasEachOnce es → sum_by (one_if q) es ≤ 1
  at_most_one [] once = omega arith
  at_most_one (e ∷ es) once = elim (eqb_tells e.pos q) [
    | inl is ↦
        let rest = none_there es (λ f h same. first_apart e f es once h (is.1 ∙ sym same)) in
        omega (arith, sum_by-cons (one_if q) e es, at_pos e is.1, rest)
    | inr other ↦
        let rest = at_most_one es (IsDistinct-tail eqb e.pos (map pos_of es) once) in
        omega (arith, sum_by-cons (one_if q) e es, off_pos e other.1, rest)
  ]

  pub at_least_one : (es : List Entry) (x : Entry) → Contains es x → x.pos ≡ q → 1 ≤ sum_by (one_if q) es
  at_least_one [] x there is = absurd (Contains-empty x there)
  at_least_one (e ∷ es) x there is = elim (Contains-cons_cases e x es there) [
    | inl same ↦ omega (arith, sum_by-cons (one_if q) e es, at_pos e (ap pos_of same ∙ is))
    | inr later ↦ omega (arith, sum_by-cons (one_if q) e es, at_least_one es x later is)
  ]

-- how often a position stands in lists that are joined
pub times-joined : {X : Type 0} (q : ℕ) (f : X → List Entry) (xs : List X) → sum_by (one_if q) (flat_map f xs) ≡ sum_by (λ x. sum_by (one_if q) (f x)) xs
times-joined q f [] = refl
times-joined q f (x ∷ xs) =
    ap (sum_by (one_if q)) (flat_map-cons f x xs) ∙ sum_by-append (one_if q) (f x) (flat_map f xs) ∙ ap (λ k. sum_by (one_if q) (f x) + k) (times-joined q f xs) ∙ sym (sum_by-cons (λ x. sum_by (one_if q) (f x)) x xs)

-- what stands in one of the lists that are joined
module _ {X Y : Type 0} (g : X → List Y) where
  pub Contains-joined : (xs : List X) (x : X) (y : Y) → Contains xs x → Contains (g x) y → Contains (flat_map g xs) y
  Contains-joined [] x y there here = absurd (Contains-empty x there)
  Contains-joined (z ∷ xs) x y there here = subst (λ ys. Contains ys y) (sym (flat_map-cons g z xs)) (elim (Contains-cons_cases z x xs there) [
    | inl same ↦ Contains-append_left (g z) (flat_map g xs) y (subst (λ w. Contains (g w) y) (sym same) here)
    | inr later ↦ Contains-append_right (g z) (flat_map g xs) y (Contains-joined xs x y later here)
  ])

  pub joined_of : (xs : List X) (y : Y) → Contains (flat_map g xs) y → (x : X) × Contains xs x × Contains (g x) y
  joined_of [] y there = absurd (Contains-empty y there)
  joined_of (z ∷ xs) y there = elim (Contains-append_cases (g z) (flat_map g xs) y (subst (λ ys. Contains ys y) (flat_map-cons g z xs) there)) [
    | inl here ↦ (z, Contains-first z xs, here)
    | inr later ↦ let one = joined_of xs y later in (one.0, Contains-next z one.0 xs one.1, one.2)
  ]
