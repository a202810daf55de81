-- How a table comes to hold a row, and how it loses it.
use Rattle.std.proofs.Common.{◌≡◌, ℕ, zero, suc, ◌+◌, ◌<◌, List, [], ◌∷◌, ◌++◌, Contains, length, take, drop, get_or, set, get_or-set_other, get_or-set_same, sym, ap, subst, ◌∙◌, inl, inr, arith}
use Rattle.std.proofs.lemmas.Bool.{cases_eq}
use Rattle.std.proofs.lemmas.List.{take_more, drop_more}
use Rattle.std.proofs.lemmas.List.Elements.{Contains-append_right, Contains-append_left, Contains-append_cases, Contains-get_or}
use Rattle.walk_laws.specs.declared.entry.Entry.{Entry}
use Rattle.walk_laws.proofs.LabelRows.{Rises, Rises-first, Rises-rest}
use Rattle.walk_laws.proofs.Members.{Contains-first, Contains-cons_cases, Contains-empty}
use Rattle.entry_vias.specs.declared.slot.Slot.{Slot}
use Rattle.entry_vias.specs.declared.slot.Slot.TheVariants.{NoEntry}
use Rattle.entry_vias.specs.Slots.{slot_at, slot_of, entry_at, one_if_sought, sought_in, IsEmpty, HoldsNoOther, IsLaidOut}
use Rattle.entry_vias.proofs.RowFacts.{pos_of}
use Rattle.entry_vias.proofs.Counts.{sought_in-set}

-- what stands in a row before an entry has a lesser position
earlier_below : (row : List Entry) (k : ℕ) (d x : Entry) → Rises pos_of row → k < length row → Contains (take k row) x → x.pos < (get_or row k d).pos
earlier_below [] k d x up lt there = absurd (omega (arith, lt))
earlier_below (a ∷ row) zero d x up lt there = absurd (Contains-empty x there)
earlier_below (a ∷ row) (suc k) d x up lt there = elim (Contains-cons_cases a x (take k row) there) [
  | inl same ↦
      let less : a.pos < (get_or row k d).pos = Rises-first pos_of a (get_or row k d) row up (Contains-get_or row k d (omega arith)) in
      omega (arith, ap pos_of same)
  | inr later ↦ earlier_below row k d x (Rises-rest pos_of a row up) (omega arith) later
]

one_of : (y x : Entry) → Contains (y ∷ []) x → y ≡ x
one_of y x there = elim (Contains-cons_cases y x [] there) [ inl same ↦ same | inr later ↦ absurd (Contains-empty x later) ]

pub IsLaidOut-none : (table : List Slot) → IsEmpty table → IsLaidOut [] table
IsLaidOut-none table empty = record { held = λ e there. absurd (Contains-empty e there); others = λ p. inl (empty p) }

module _ (xs : List Entry) (y : Entry) (table : List Slot) (inside : y.pos < length table) where
  -- one more entry, after all others
  IsLaidOut-put : ((x : Entry) → Contains xs x → x.pos < y.pos) → IsLaidOut xs table → IsLaidOut (xs ++ y ∷ []) (set table y.pos (slot_of y.dist))
  IsLaidOut-put below was = record {
    held = λ e there. elim (Contains-append_cases xs (y ∷ []) e there) [
      | inl before ↦
          let less = below e before in
          get_or-set_other table y.pos e.pos (slot_of y.dist) NoEntry (λ same. omega (arith, same, less)) ∙ was.held e before
      | inr last ↦ subst (λ (x : Entry). slot_at (set table y.pos (slot_of y.dist)) x.pos ≡ slot_of x.dist) (one_of y e last) (get_or-set_same table y.pos (slot_of y.dist) NoEntry inside)
    ];
    others = λ p. elim (cases_eq p y.pos) [
      | inl same ↦ inr (y.dist, subst (λ q. Contains (xs ++ y ∷ []) (entry_at q y.dist)) (sym same) (Contains-append_right xs (y ∷ []) y (Contains-first y [])))
      | inr other ↦ elim (was.others p) [
        | inl none ↦ inl (get_or-set_other table y.pos p (slot_of y.dist) NoEntry other ∙ none)
        | inr there ↦ inr (there.0, Contains-append_left xs (y ∷ []) (entry_at p there.0) there.1)
      ]
    ];
  }

  -- one entry less, before all others
  HoldsNoOther-cleared : HoldsNoOther (y ∷ xs) table → HoldsNoOther xs (set table y.pos NoEntry)
  HoldsNoOther-cleared was p = elim (cases_eq p y.pos) [
    | inl same ↦ inl (ap (slot_at (set table y.pos NoEntry)) same ∙ get_or-set_same table y.pos NoEntry NoEntry inside)
    | inr other ↦ elim (was p) [
      | inl none ↦ inl (get_or-set_other table y.pos p NoEntry NoEntry other ∙ none)
      | inr there ↦ elim (Contains-cons_cases y (entry_at p there.0) xs there.1) [
        | inl same ↦ absurd (other (sym (ap pos_of same)))
        | inr later ↦ inr (there.0, later)
      ]
    ]
  ]

-- the same of the entry at a place of the row
module _ (row : List Entry) (k : ℕ) (d : Entry) (table : List Slot) (lt : k < length row) (inside : (get_or row k d).pos < length table) where
  pub IsLaidOut-next : Rises pos_of row → IsLaidOut (take k row) table → IsLaidOut (take (k + 1) row) (set table (get_or row k d).pos (slot_of (get_or row k d).dist))
  IsLaidOut-next up was =
      subst (λ xs. IsLaidOut xs (set table (get_or row k d).pos (slot_of (get_or row k d).dist))) (sym (take_more row k d lt))
      (IsLaidOut-put (take k row) (get_or row k d) table inside (λ x there. earlier_below row k d x up lt there) was)

  -- the slot of the next entry has none yet, so only this entry's via is sought besides
  free_at : Rises pos_of row → IsLaidOut (take k row) table → slot_at table (get_or row k d).pos ≡ NoEntry
  free_at up was = elim (was.others (get_or row k d).pos) [
    | inl none ↦ none
    | inr there ↦ absurd (omega (arith, earlier_below row k d (entry_at (get_or row k d).pos there.0) up lt there.1))
  ]

  pub sought-next : Rises pos_of row → IsLaidOut (take k row) table → sought_in (set table (get_or row k d).pos (slot_of (get_or row k d).dist)) ≡ sought_in table + one_if_sought (slot_of (get_or row k d).dist)
  sought-next up was =
      let none : one_if_sought (slot_at table (get_or row k d).pos) ≡ 0 = ap one_if_sought (free_at up was) in
      omega (arith, sought_in-set table (get_or row k d).pos (slot_of (get_or row k d).dist) inside, none)

  pub HoldsNoOther-next : HoldsNoOther (drop k row) table → HoldsNoOther (drop (k + 1) row) (set table (get_or row k d).pos NoEntry)
  HoldsNoOther-next was =
      HoldsNoOther-cleared (drop (k + 1) row) (get_or row k d) table inside (subst (λ xs. HoldsNoOther xs table) (drop_more row k d lt) was)

-- a table with nothing but at positions of no row is empty
pub IsEmpty-cleared : (table : List Slot) → HoldsNoOther [] table → IsEmpty table
IsEmpty-cleared table was p = elim (was p) [ inl none ↦ none | inr there ↦ absurd (Contains-empty (entry_at p there.0) there.1) ]
