-- What a look at a neighbour's row tells, entry by entry.
use Rattle.std.proofs.Common.{◌≡◌, ℕ, ◌+◌, ◌<◌, ◌≤◌, List, [], ◌∷◌, ◌++◌, Contains, length, take, get_or, set, get_or-set_other, get_or-set_same, refl, sym, ap, subst, ◌∙◌, inl, inr, arith}
use Rattle.std.proofs.lemmas.Bool.{cases_eq}
use Rattle.std.proofs.lemmas.List.{take_more, take_all}
use Rattle.std.proofs.lemmas.List.Elements.{Contains-append_right, Contains-append_left, Contains-append_cases}
use Rattle.walk_laws.specs.declared.graph.Arc.{Arc}
use Rattle.walk_laws.specs.declared.entry.Entry.{Entry}
use Rattle.walk_laws.proofs.Members.{Contains-first, Contains-cons_cases, Contains-empty}
use Rattle.entry_vias.specs.declared.slot.Slot.{Slot}
use Rattle.entry_vias.specs.declared.slot.Slot.TheVariants.{NoEntry, Sought, Found}
use Rattle.entry_vias.specs.Slots.{slot_at, entry_at, one_if_sought, sought_in, LeadsNearer, IsAfterLook}
use Rattle.entry_vias.proofs.RowFacts.{pos_of}
use Rattle.entry_vias.proofs.Counts.{sought_in-set}

-- before any entry nothing has changed
pub IsAfterLook-none : (a : Arc) (p : ℕ) (before : Slot) → IsAfterLook [] a p before before
IsAfterLook-none a p NoEntry = refl
IsAfterLook-none a p (Found via) = refl
IsAfterLook-none a p (Sought d) = inl (refl, λ leads. Contains-empty (entry_at p leads.0) leads.1)

module _ (xs : List Entry) (e : Entry) (a : Arc) (p : ℕ) where
  -- an entry that isn't nearer than what is sought at its position
  abbrev Misses : Slot → Type 0
  Misses now = p ≡ e.pos → now ≡ Sought (e.dist + a.w) → ⊥

  leads_by_last : (d : ℕ) → ¬ LeadsNearer xs a p d → LeadsNearer (xs ++ e ∷ []) a p d → (p ≡ e.pos) × (d ≡ e.dist + a.w)
  leads_by_last d none leads = elim (Contains-append_cases xs (e ∷ []) (entry_at p leads.0) leads.1) [
    | inl before ↦ absurd (none (leads.0, before, leads.2))
    | inr last ↦ elim (Contains-cons_cases e (entry_at p leads.0) [] last) [
      | inl same ↦ (sym (ap pos_of same), omega (arith, ap (λ (x : Entry). x.dist) same, leads.2))
      | inr later ↦ absurd (Contains-empty (entry_at p leads.0) later)
    ]
  ]

  still_leads : (d : ℕ) → LeadsNearer xs a p d → LeadsNearer (xs ++ e ∷ []) a p d
  still_leads d leads = (leads.0, Contains-append_left xs (e ∷ []) (entry_at p leads.0) leads.1, leads.2)

  miss : (before now : Slot) → IsAfterLook xs a p before now → (p ≡ e.pos → now ≡ Sought (e.dist + a.w) → ⊥) → IsAfterLook (xs ++ e ∷ []) a p before now
  miss NoEntry now was misses = was
  miss (Found via) now was misses = was
  miss (Sought d) now was misses = elim was [
    | inl still ↦ inl (still.0, λ leads. let last = leads_by_last d still.1 leads in misses last.0 (still.0 ∙ ap Sought last.1))
    | inr found ↦ inr (found.0, still_leads d found.1)
  ]

  hit : (before now : Slot) → IsAfterLook xs a p before now → p ≡ e.pos → now ≡ Sought (e.dist + a.w) → IsAfterLook (xs ++ e ∷ []) a p before (Found a.to)
  hit NoEntry now was here is = absurd cc
  hit (Found via) now was here is = absurd cc
  hit (Sought d) now was here is = elim was [
    | inl still ↦
        let level : Sought d ≡ Sought (e.dist + a.w) = sym still.0 ∙ is in
        let far : d ≡ e.dist + a.w = cc in
        inr (refl, (e.dist, subst (λ q. Contains (xs ++ e ∷ []) (entry_at q e.dist)) (sym here) (Contains-append_right xs (e ∷ []) e (Contains-first e [])), sym far))
    | inr found ↦ let never : Found a.to ≡ Sought (e.dist + a.w) = sym found.0 ∙ is in absurd cc
  ]

-- the same of the entry at a place of the row
module _ (row : List Entry) (k : ℕ) (d : Entry) (a : Arc) (old now : List Slot) (lt : k < length row) (was : (p : ℕ) → IsAfterLook (take k row) a p (slot_at old p) (slot_at now p)) where
  abbrev e : Entry
  e = get_or row k d

  pub look_misses : (slot_at now (get_or row k d).pos ≡ Sought ((get_or row k d).dist + a.w) → ⊥) → (p : ℕ) → IsAfterLook (take (k + 1) row) a p (slot_at old p) (slot_at now p)
  look_misses misses p =
      subst (λ xs. IsAfterLook xs a p (slot_at old p) (slot_at now p)) (sym (take_more row k d lt))
      (miss (take k row) e a p (slot_at old p) (slot_at now p) (was p) (λ here is. misses (ap (slot_at now) (sym here) ∙ is)))

  -- a via that is found is sought no more
  pub look_counts : (get_or row k d).pos < length now → slot_at now (get_or row k d).pos ≡ Sought ((get_or row k d).dist + a.w) → sought_in (set now (get_or row k d).pos (Found a.to)) + 1 ≡ sought_in now
  look_counts inside is =
      let one : one_if_sought (slot_at now (get_or row k d).pos) ≡ 1 = ap one_if_sought is in
      omega (arith, sought_in-set now (get_or row k d).pos (Found a.to) inside, one)

  pub look_hits : (get_or row k d).pos < length now → slot_at now (get_or row k d).pos ≡ Sought ((get_or row k d).dist + a.w) → (p : ℕ) → IsAfterLook (take (k + 1) row) a p (slot_at old p) (slot_at (set now (get_or row k d).pos (Found a.to)) p)
  look_hits inside is p =
      subst (λ xs. IsAfterLook xs a p (slot_at old p) (slot_at (set now e.pos (Found a.to)) p)) (sym (take_more row k d lt))
      (elim (cases_eq p e.pos) [
        | inl here ↦
            let put : slot_at (set now e.pos (Found a.to)) p ≡ Found a.to = ap (slot_at (set now e.pos (Found a.to))) here ∙ get_or-set_same now e.pos (Found a.to) NoEntry inside in
            subst (IsAfterLook (take k row ++ e ∷ []) a p (slot_at old p)) (sym put) (hit (take k row) e a p (slot_at old p) (slot_at now p) (was p) here (ap (slot_at now) here ∙ is))
        | inr other ↦
            subst (IsAfterLook (take k row ++ e ∷ []) a p (slot_at old p)) (sym (get_or-set_other now e.pos p (Found a.to) NoEntry other))
            (miss (take k row) e a p (slot_at old p) (slot_at now p) (was p) (λ here _. other here))
      ])

pub look_done : (row : List Entry) (k : ℕ) (a : Arc) (old now : List Slot) → length row ≤ k → ((p : ℕ) → IsAfterLook (take k row) a p (slot_at old p) (slot_at now p)) → (p : ℕ) → IsAfterLook row a p (slot_at old p) (slot_at now p)
look_done row k a old now over was p = subst (λ xs. IsAfterLook xs a p (slot_at old p) (slot_at now p)) (take_all k row over) (was p)
