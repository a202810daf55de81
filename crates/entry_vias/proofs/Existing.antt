-- Whether a neighbour is nearer can be decided, so any rows have vias.
use Rattle.std.specs.List.{AllZip}
use Rattle.std.proofs.Common.{◌≡◌, ◌⊎◌, ℕ, zero, suc, ◌+◌, ◌-◌, List, [], ◌∷◌, ◌++◌, Contains, length, refl, ap, subst, ◌∙◌, inl, inr, arith}
use Rattle.std.proofs.lemmas.Bool.{cases_lt, cases_eq}
use Rattle.walk_laws.specs.declared.graph.Edge.{Edge}
use Rattle.walk_laws.specs.declared.graph.Arc.{Arc}
use Rattle.walk_laws.specs.declared.entry.Entry.{Entry}
use Rattle.walk_laws.specs.Graph.{arcs_at}
use Rattle.walk_laws.specs.Joined.{Joined}
use Rattle.walk_laws.specs.Labelling.{label_row}
use Rattle.walk_laws.proofs.Arcs.{Joined-from_arcs_at, Contains-arcs_at}
use Rattle.walk_laws.proofs.Search.{Found-decided, LeastNumber-exists}
use Rattle.entry_vias.specs.RowVias.{IsNearer, IsFirstNearer, IsRowVia, AreVias}
use Rattle.entry_vias.specs.ViaRanges.{AreViasFrom}
use Rattle.entry_vias.specs.Slots.{entry_at, LeadsNearer}
use Rattle.entry_vias.proofs.OneList.{AreVias-all, AreViasFrom-none, AreViasFrom-push}

same_entry : (x : Entry) (p d : ℕ) → x.pos ≡ p → x.dist ≡ d → x ≡ entry_at p d
same_entry x p d level far = ap (λ q. entry_at q x.dist) level ∙ ap (entry_at p) far

is_entry_decided : (x : Entry) (p d : ℕ) → (x ≡ entry_at p d) ⊎ (x ≡ entry_at p d → ⊥)
is_entry_decided x p d = elim (cases_eq x.pos p) [
  | inr other ↦ inr (λ same. other (ap (λ (e : Entry). e.pos) same))
  | inl level ↦ elim (cases_eq x.dist d) [
    | inr other ↦ inr (λ same. other (ap (λ (e : Entry). e.dist) same))
    | inl far ↦ inl (same_entry x p d level far)
  ]
]

-- whether a row has an entry
has_entry : (row : List Entry) (p d : ℕ) → Contains row (entry_at p d) ⊎ (Contains row (entry_at p d) → ⊥)
has_entry row p d = elim (Found-decided (λ x. x ≡ entry_at p d) row (λ x _. is_entry_decided x p d)) [
  | inl found ↦ inl (subst (Contains row) found.holds found.there)
  | inr none ↦ inr (λ there. none (entry_at p d) there refl)
]

-- whether an arc leads nearer
leads_decided : (row : List Entry) (a : Arc) (p d : ℕ) → LeadsNearer row a p d ⊎ (LeadsNearer row a p d → ⊥)
leads_decided row a p d = elim (cases_lt d a.w) [
  | inl heavy ↦ inr (λ leads. omega (arith, leads.2, heavy))
  | inr light ↦ elim (has_entry row p (d - a.w)) [
    | inl there ↦ inl (d - a.w, there, omega (arith, light))
    | inr none ↦ inr (λ leads. let far : leads.0 ≡ d - a.w = omega (arith, leads.2) in none (subst (λ f. Contains row (entry_at p f)) far leads.1))
  ]
]

module _ (edges : List Edge) (rows : List (List Entry)) (v : ℕ) (e : Entry) where
  -- the arc leads to y, nearer to the hub of the entry
  abbrev IsStep : ℕ → Arc → Type 0
  IsStep y a = (a.to ≡ y) × LeadsNearer (label_row rows a.to) a e.pos e.dist

  step_decided : (y : ℕ) (a : Arc) → ((a.to ≡ y) × LeadsNearer (label_row rows a.to) a e.pos e.dist) ⊎ ((a.to ≡ y) × LeadsNearer (label_row rows a.to) a e.pos e.dist → ⊥)
  step_decided y a = elim (cases_eq a.to y) [
    | inr other ↦ inr (λ step. other step.0)
    | inl same ↦ elim (leads_decided (label_row rows a.to) a e.pos e.dist) [
      | inl leads ↦ inl (same, leads)
      | inr none ↦ inr (λ step. none step.1)
    ]
  ]

  nearer_of : (a : Arc) → Contains (arcs_at edges v) a → LeadsNearer (label_row rows a.to) a e.pos e.dist → IsNearer (Joined edges) rows v e a.to
  nearer_of a there leads = record { weight = a.w; dist = leads.0; arc = Joined-from_arcs_at edges v a.to a.w there; there = leads.1; long = leads.2 }

  pub IsNearer-decided : (y : ℕ) → IsNearer (Joined edges) rows v e y ⊎ (IsNearer (Joined edges) rows v e y → ⊥)
  IsNearer-decided y = elim (Found-decided (IsStep y) (arcs_at edges v) (λ a _. step_decided y a)) [
    | inl found ↦ inl (subst (IsNearer (Joined edges) rows v e) found.holds.0 (nearer_of found.element found.there found.holds.1))
    | inr none ↦ inr (λ n. none (record { to = y; w = n.weight }) (Contains-arcs_at edges v y n.weight n.arc) (refl, (n.dist, n.there, n.long)))
  ]

  -- where a neighbour is nearer, one is the least
  pub IsFirstNearer-exists : (y : ℕ) → IsNearer (Joined edges) rows v e y → (z : ℕ) × IsFirstNearer (Joined edges) rows v e z
  IsFirstNearer-exists y n =
      let first = LeastNumber-exists (IsNearer (Joined edges) rows v e) IsNearer-decided y n in
      (first.number, record { nearer = first.holds; least = first.least })

  entry_via : (y : ℕ) × IsRowVia (Joined edges) rows v e y
  entry_via = elim (Found-decided (λ a. LeadsNearer (label_row rows a.to) a e.pos e.dist) (arcs_at edges v) (λ a _. leads_decided (label_row rows a.to) a e.pos e.dist)) [
    | inl found ↦ let first = IsFirstNearer-exists found.element.to (nearer_of found.element found.there found.holds) in (first.0, inl first.1)
    | inr none ↦ (0, inr (refl, λ z n. none (record { to = z; w = n.weight }) (Contains-arcs_at edges v z n.weight n.arc) (n.dist, n.there, n.long)))
  ]

-- where each element has something beside it, a list has
AllZip-exists : {X Y : Type 0} (R : X → Y → Type 0) → ((x : X) → (y : Y) × R x y) → (xs : List X) → (ys : List Y) × AllZip R xs ys
AllZip-exists R each [] = ([], tt)
AllZip-exists R each (x ∷ xs) =
    let first = each x in
    let rest = AllZip-exists R each xs in
    (first.0 ∷ rest.0, (first.1, rest.1))

module _ (edges : List Edge) (rows : List (List Entry)) where
  vias_up_to : (k : ℕ) → (vias : List (List ℕ)) × AreViasFrom (Joined edges) rows 0 k vias
  vias_up_to zero = ([], AreViasFrom-none (Joined edges) rows 0 [] refl)
  vias_up_to (suc k) =
      let before = vias_up_to k in
      let last = AllZip-exists (IsRowVia (Joined edges) rows (k + 1)) (λ e. entry_via edges rows (k + 1) e) (label_row rows (k + 1)) in
      let more = AreViasFrom-push (Joined edges) rows 0 k before.0 last.0 before.1 last.1 in
      let next : k + 1 ≡ suc k = omega arith in
      (before.0 ++ last.0 ∷ [], subst (λ j. AreViasFrom (Joined edges) rows 0 j (before.0 ++ last.0 ∷ [])) next more)

  pub AreVias-exist : (vias : List (List ℕ)) × AreVias (Joined edges) rows vias
  AreVias-exist = let all = vias_up_to (length rows) in (all.0, AreVias-all (Joined edges) rows (length rows) all.0 refl all.1)
