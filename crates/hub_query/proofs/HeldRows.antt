-- How a table comes to hold a row, and how it loses it.
use Rattle.std.proofs.Common.{◌≡◌, ◌≢◌, ◌⊎◌, ℕ, zero, suc, ◌+◌, ◌^◌, ◌<◌, ◌≤◌, List, [], ◌∷◌, ◌++◌, All, Contains, length, take, drop, get_or, set, get_or-set_other, get_or-set_same, refl, sym, ap, subst, ◌∙◌, inl, inr, arith}
use Rattle.std.proofs.lemmas.Bool.{cases_eq}
use Rattle.std.proofs.lemmas.List.{take_more, drop_more, get_or_default}
use Rattle.std.proofs.lemmas.List.Elements.{All-contains, Contains-append_right, Contains-append_left, Contains-append_cases, Contains-get_or}
use Rattle.walk_laws.specs.declared.entry.Entry.{Entry}
use Rattle.walk_laws.proofs.LabelRows.{Rises, Rises-first, Rises-rest}
use Rattle.walk_laws.proofs.Members.{Contains-first, Contains-cons_cases, Contains-empty}
use Rattle.hub_query.specs.HubTables.{far, distance_at, HoldsRow}
use Rattle.hub_query.proofs.Sums.{pos_of}

-- the entry of a position and a distance
abbrev pub at_position : ℕ → ℕ → Entry
at_position p d = record { pos = p; dist = d }

-- the table has nothing but distances of the row
abbrev pub HoldsNoMore : List Entry → List ℕ → Type 0
HoldsNoMore row table = (p : ℕ) → (distance_at table p ≡ far) ⊎ Contains row (at_position p (distance_at table p))

-- what stands in a row before an entry has a lesser position
pub earlier_below : (row : List Entry) (k : ℕ) (d x : Entry) → Rises pos_of row → k < length row → Contains (take k row) x → x.pos < (get_or row k d).pos
earlier_below [] k d x up lt there = absurd (omega (arith, lt))
earlier_below (a ∷ row) zero d x up lt there = absurd (Contains-empty x there)
earlier_below (a ∷ row) (suc k) d x up lt there = elim (Contains-cons_cases a x (take k row) there) [
  | inl same ↦
      let less : a.pos < (get_or row k d).pos = Rises-first pos_of a (get_or row k d) row up (Contains-get_or row k d (omega arith)) in
      omega (arith, ap pos_of same)
  | inr later ↦ earlier_below row k d x (Rises-rest pos_of a row up) (omega arith) later
]

one_of : (y x : Entry) → Contains (y ∷ []) x → y ≡ x
one_of y x there = elim (Contains-cons_cases y x [] there) [ inl same ↦ same | inr later ↦ absurd (Contains-empty x later) ]

module _ (xs : List Entry) (y : Entry) (table : List ℕ) (inside : y.pos < length table) where
  put : List ℕ
  put = set table y.pos y.dist

  put_at : distance_at (set table y.pos y.dist) y.pos ≡ y.dist
  put_at = get_or-set_same table y.pos y.dist far inside

  put_elsewhere : (p : ℕ) → p ≢ y.pos → distance_at (set table y.pos y.dist) p ≡ distance_at table p
  put_elsewhere p other = get_or-set_other table y.pos p y.dist far other

  -- one more entry, after all others
  pub HoldsRow-put : ((x : Entry) → Contains xs x → x.pos < y.pos) → HoldsRow xs table → HoldsRow (xs ++ y ∷ []) (set table y.pos y.dist)
  HoldsRow-put below was = record {
    held = λ e there. elim (Contains-append_cases xs (y ∷ []) e there) [
      | inl before ↦
          let less = below e before in
          put_elsewhere e.pos (λ same. omega (arith, same, less)) ∙ was.held e before
      | inr last ↦ subst (λ (x : Entry). distance_at (set table y.pos y.dist) x.pos ≡ x.dist) (one_of y e last) put_at
    ];
    others = λ p. elim (cases_eq p y.pos) [
      | inl same ↦
          let here : distance_at (set table y.pos y.dist) p ≡ y.dist = ap (distance_at (set table y.pos y.dist)) same ∙ put_at in
          let is : y ≡ at_position p (distance_at (set table y.pos y.dist) p) = rw (here, same) refl in
          inr (subst (Contains (xs ++ y ∷ [])) is (Contains-append_right xs (y ∷ []) y (Contains-first y [])))
      | inr other ↦
          let still = sym (put_elsewhere p other) in
          subst (λ d. (d ≡ far) ⊎ Contains (xs ++ y ∷ []) (at_position p d)) still (elim (was.others p) [
            | inl none ↦ inl none
            | inr there ↦ inr (Contains-append_left xs (y ∷ []) (at_position p (distance_at table p)) there)
          ])
    ];
  }

  -- one entry less, before all others
  pub HoldsNoMore-cleared : HoldsNoMore (y ∷ xs) table → HoldsNoMore xs (set table y.pos far)
  HoldsNoMore-cleared was p = elim (cases_eq p y.pos) [
    | inl same ↦ inl (ap (distance_at (set table y.pos far)) same ∙ get_or-set_same table y.pos far far inside)
    | inr other ↦
        subst (λ d. (d ≡ far) ⊎ Contains xs (at_position p d)) (sym (get_or-set_other table y.pos p far far other)) (elim (was p) [
          | inl none ↦ inl none
          | inr there ↦ elim (Contains-cons_cases y (at_position p (distance_at table p)) xs there) [
            | inl same ↦ absurd (other (sym (ap pos_of same)))
            | inr later ↦ inr later
          ]
        ])
  ]

-- the same of the entry at a place of the row
module _ (row : List Entry) (k : ℕ) (d : Entry) (table : List ℕ) (lt : k < length row) (inside : (get_or row k d).pos < length table) where
  pub HoldsRow-next : Rises pos_of row → HoldsRow (take k row) table → HoldsRow (take (k + 1) row) (set table (get_or row k d).pos (get_or row k d).dist)
  HoldsRow-next up was =
      subst (λ xs. HoldsRow xs (set table (get_or row k d).pos (get_or row k d).dist)) (sym (take_more row k d lt))
      (HoldsRow-put (take k row) (get_or row k d) table inside (λ x there. earlier_below row k d x up lt there) was)

  pub HoldsNoMore-next : HoldsNoMore (drop k row) table → HoldsNoMore (drop (k + 1) row) (set table (get_or row k d).pos far)
  HoldsNoMore-next was =
      HoldsNoMore-cleared (drop (k + 1) row) (get_or row k d) table inside (subst (λ xs. HoldsNoMore xs table) (drop_more row k d lt) was)

-- a table without distances holds no row
pub HoldsRow-none : (table : List ℕ) → HoldsNoMore [] table → HoldsRow [] table
HoldsRow-none table none = record { held = λ e there. absurd (Contains-empty e there); others = none }

-- all that a table holds is at most `far`
pub HoldsRow-low : (row : List Entry) (table : List ℕ) → All (λ (e : Entry). e.dist < 2 ^ 62) row → HoldsRow row table → All (λ d. d ≤ far) table
HoldsRow-low row table fits holds k d lt = elim (holds.others k) [
  | inl none ↦ omega (arith, none, get_or_default table k d far lt)
  | inr there ↦
      let short : distance_at table k < 2 ^ 62 = All-contains (λ (e : Entry). e.dist < 2 ^ 62) row (at_position k (distance_at table k)) fits there in
      omega (arith, short, get_or_default table k d far lt)
]
