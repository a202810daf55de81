-- What the arcs of a node tell of the entries of its row, as they are gone along by rising neighbour.
use Rattle.std.proofs.Common.{◌≡◌, ◌↔◌, ◌⊎◌, ℕ, ◌+◌, ◌-◌, ◌<◌, ◌≤◌, List, All, Contains, length, map, get_or, take, refl, sym, ap, subst, ◌∙◌, inl, inr, arith}
use Rattle.std.specs.List.Sorted.{IsNonDecreasing}
use Rattle.std.proofs.lemmas.Bool.{cases_lt}
use Rattle.std.proofs.lemmas.List.{get_or-map, get_or_default, get_or-take, length-map, length-take}
use Rattle.std.proofs.lemmas.List.Elements.{All-contains, All-nil, Contains-get_or}
use Rattle.walk_laws.specs.declared.graph.Arc.{Arc}
use Rattle.walk_laws.specs.declared.entry.Entry.{Entry}
use Rattle.walk_laws.specs.Labelling.{label_row}
use Rattle.walk_laws.specs.LightestArcs.{no_arc}
use Rattle.hub_index.proofs.CoveredEntries.{All-one_more, All-whole}
use Rattle.entry_vias.specs.declared.slot.Slot.{Slot}
use Rattle.entry_vias.specs.declared.slot.Slot.TheVariants.{NoEntry, Sought, Found}
use Rattle.entry_vias.specs.RowVias.{IsNearer, IsFirstNearer}
use Rattle.entry_vias.specs.Slots.{entry_at, LeadsNearer, IsAfterLook, IsAfterAll, IsRepeated}

module _ (J : ℕ → ℕ → ℕ → Type 0) (rows : List (List Entry)) (v : ℕ) (arcs : List Arc) where
  -- what is known at the position p after the first k arcs
  abbrev pub IsAfterArcs : ℕ → ℕ → Slot → Slot → Type 0
  IsAfterArcs k p NoEntry now = now ≡ NoEntry
  IsAfterArcs k p (Found via) now = now ≡ Found via
  IsAfterArcs k p (Sought d) now = ((now ≡ Sought d) × All (λ a. ¬ LeadsNearer (label_row rows a.to) a p d) (take k arcs)) ⊎ ((y : ℕ) × (now ≡ Found y) × IsFirstNearer J rows v (entry_at p d) y)

module _ (J : ℕ → ℕ → ℕ → Type 0) (rows : List (List Entry)) (v : ℕ) (arcs : List Arc) (joined : (t w : ℕ) → Contains arcs (record { to = t; w = w }) ↔ J v t w) where
  nearer_by : (p d : ℕ) (a : Arc) → Contains arcs a → LeadsNearer (label_row rows a.to) a p d → IsNearer J rows v (entry_at p d) a.to
  nearer_by p d a there leads = record { weight = a.w; dist = leads.0; arc = (joined a.to a.w).0 there; there = leads.1; long = leads.2 }

  pub IsAfterArcs-none : (p : ℕ) (before : Slot) → IsAfterArcs J rows v arcs 0 p before before
  IsAfterArcs-none p NoEntry = refl
  IsAfterArcs-none p (Found via) = refl
  IsAfterArcs-none p (Sought d) = inl (refl, All-nil (λ a. ¬ LeadsNearer (label_row rows a.to) a p d))

  module _ (rising : IsNonDecreasing (map (λ a. a.to) arcs)) (k : ℕ) (within : k < length arcs) where
    to_of : Arc → ℕ
    to_of a = a.to

    rises_to : (i : ℕ) → k ≤ i → i < length arcs → (get_or arcs k no_arc).to ≤ (get_or arcs i no_arc).to
    unfolding to_of
    rises_to i le lt =
        let r : get_or (map (λ a. a.to) arcs) k 0 ≤ get_or (map (λ a. a.to) arcs) i 0 = rising k i 0 le (omega (arith, length-map arcs to_of, lt)) in
        omega (arith, r, get_or-map to_of arcs k no_arc 0 within, get_or-map to_of arcs i no_arc 0 lt)

    -- where none of the arcs before it leads nearer, each arc that does leads to no lesser node
    no_lesser : (p d : ℕ) → All (λ a. ¬ LeadsNearer (label_row rows a.to) a p d) (take k arcs) → (z : ℕ) → IsNearer J rows v (entry_at p d) z → (get_or arcs k no_arc).to ≤ z
    no_lesser p d none z n =
        let a : Arc = record { to = z; w = n.weight } in
        let there = (joined z n.weight).1 n.arc in
        let leads : LeadsNearer (label_row rows z) a p d = (n.dist, n.there, n.long) in
        let here : get_or arcs there.0 no_arc ≡ a = subst (λ x. x ≡ a) (get_or_default arcs there.0 a no_arc there.1) there.2 in
        elim (cases_lt there.0 k) [
          | inr after ↦ omega (arith, rises_to there.0 after there.1, ap (λ (x : Arc). x.to) here)
          | inl before ↦
              let taken : get_or (take k arcs) there.0 no_arc ≡ a = subst (λ x. x ≡ a) (sym (get_or-take k arcs there.0 no_arc before)) here in
              absurd (none there.0 no_arc (omega (arith, length-take k arcs, before, there.1)) (subst (λ x. LeadsNearer (label_row rows x.to) x p d) (sym taken) leads))
        ]

    -- one arc more
    pub IsAfterArcs-next : (p : ℕ) (before now next : Slot) → IsAfterArcs J rows v arcs k p before now → IsAfterLook (label_row rows (get_or arcs k no_arc).to) (get_or arcs k no_arc) p now next → IsAfterArcs J rows v arcs (k + 1) p before next
    IsAfterArcs-next p NoEntry now next was look = subst (λ s. IsAfterLook (label_row rows (get_or arcs k no_arc).to) (get_or arcs k no_arc) p s next) was look
    IsAfterArcs-next p (Found via) now next was look = subst (λ s. IsAfterLook (label_row rows (get_or arcs k no_arc).to) (get_or arcs k no_arc) p s next) was look
    IsAfterArcs-next p (Sought d) now next was look =
        let a : Arc = get_or arcs k no_arc in
        elim was [
          | inr found ↦ inr (found.0, subst (λ s. IsAfterLook (label_row rows a.to) a p s next) found.1 look, found.2)
          | inl still ↦
              let told : IsAfterLook (label_row rows a.to) a p (Sought d) next = subst (λ s. IsAfterLook (label_row rows a.to) a p s next) still.0 look in
              elim told [
                | inl misses ↦ inl (misses.0, All-one_more (λ a. ¬ LeadsNearer (label_row rows a.to) a p d) arcs k no_arc within still.1 misses.1)
                | inr hits ↦ inr (a.to, hits.0, record { nearer = nearer_by p d a (Contains-get_or arcs k no_arc within) hits.1; least = no_lesser p d still.1 })
              ]
        ]

    -- one arc more, which is the same as the last one, and tells nothing new
    pub IsAfterArcs-repeated : IsRepeated arcs k → (p : ℕ) (before now : Slot) → IsAfterArcs J rows v arcs k p before now → IsAfterArcs J rows v arcs (k + 1) p before now
    IsAfterArcs-repeated same p NoEntry now was = was
    IsAfterArcs-repeated same p (Found via) now was = was
    IsAfterArcs-repeated same p (Sought d) now was = elim was [
      | inr found ↦ inr found
      | inl still ↦
          let last : get_or (take k arcs) (k - 1) no_arc ≡ get_or arcs k no_arc = get_or-take k arcs (k - 1) no_arc (omega (arith, same.0)) ∙ same.1 in
          let misses : ¬ LeadsNearer (label_row rows (get_or arcs k no_arc).to) (get_or arcs k no_arc) p d =
          subst (λ (x : Arc). ¬ LeadsNearer (label_row rows x.to) x p d) last (still.1 (k - 1) no_arc (omega (arith, length-take k arcs, same.0, within))) in
          inl (still.0, All-one_more (λ a. ¬ LeadsNearer (label_row rows a.to) a p d) arcs k no_arc within still.1 misses)
    ]

  -- after all arcs
  pub IsAfterAll-arcs : (k p : ℕ) (before now : Slot) → length arcs ≤ k → IsAfterArcs J rows v arcs k p before now → IsAfterAll J rows v p before now
  IsAfterAll-arcs k p NoEntry now over was = was
  IsAfterAll-arcs k p (Found via) now over was = was
  IsAfterAll-arcs k p (Sought d) now over was = elim was [
    | inr found ↦ inr found
    | inl still ↦ inl (
      still.0,
      λ z n.
          All-contains (λ a. ¬ LeadsNearer (label_row rows a.to) a p d) arcs (record { to = z; w = n.weight })
          (All-whole (λ a. ¬ LeadsNearer (label_row rows a.to) a p d) arcs k over still.1)
          ((joined z n.weight).1 n.arc) (n.dist, n.there, n.long),
    )
  ]

  -- where no via is sought any more, the arcs so far are as good as all
  pub IsAfterAll-stopped : (k p : ℕ) (before now : Slot) → ((d : ℕ) → now ≡ Sought d → ⊥) → IsAfterArcs J rows v arcs k p before now → IsAfterAll J rows v p before now
  IsAfterAll-stopped k p NoEntry now none was = was
  IsAfterAll-stopped k p (Found via) now none was = was
  IsAfterAll-stopped k p (Sought d) now none was = elim was [
    | inr found ↦ inr found
    | inl still ↦ absurd (none d still.0)
  ]
