-- Entries of hubs, put in the hubs' rows.
use Rattle.std.proofs.Common.{◌≡◌, ◌≢◌, inl, inr, ℕ, ◌+◌, ◌-◌, ◌<◌, ◌≤◌, ◌==◌, List, [], ◌∷◌, ◌++◌, Vec, Global, Contains, filter, get_or, length, map, set, take, refl, sym, ap, subst, ◌∙◌, arith}
use Rattle.std.proofs.lemmas.Bool.{cases_eq, eq-eqb, ne_eqb}
use Rattle.std.proofs.lemmas.List.{append-nil, get_or-set_other, get_or-map, get_or-set_same, get_or-take, length-map, length-take, map-append, map-set, take_more}
use Rattle.std.proofs.lemmas.List.Elements.{Contains-append_left, Contains-append_right, Contains-append_cases, filter-append}
use Rattle.std.proofs.lemmas.List.Sorted.{Contains-permutation, IsPermutation-sym}
use Rattle.walk_laws.specs.declared.entry.Entry.{Entry}
use Rattle.walk_laws.proofs.Members.{Contains-first, Contains-next, Contains-cons_cases, Contains-empty}
use Rattle.label_clean.specs.declared.hub_rows.HubEntry.{HubEntry}
use Rattle.hub_index.specs.NodeEntries.{IsGatheredRow}
use Rattle.label_clean.specs.HubRows.{AreGathered, entries_of_hub}
use Rattle.label_clean.proofs.RowFacts.{IsSortedRow-from_sort}
use Rattle.label_clean.proofs.RowItems.{items_of}

abbrev hub_entry : ℕ → Entry → HubEntry
hub_entry q e = record { of = q; entry = e }

pub entries_of_hub-append : (xs ys : List HubEntry) (q : ℕ) → entries_of_hub (xs ++ ys) q ≡ entries_of_hub xs q ++ entries_of_hub ys q
entries_of_hub-append xs ys q =
    ap (map (λ (e : HubEntry). e.entry)) (filter-append (λ (e : HubEntry). e.of == q) xs ys)
    ∙ map-append (λ (e : HubEntry). e.entry) (filter (λ (e : HubEntry). e.of == q) xs) (filter (λ (e : HubEntry). e.of == q) ys)

same_hub : (x : HubEntry) (q : ℕ) → x.of ≡ q → entries_of_hub (x ∷ []) q ≡ x.entry ∷ []
same_hub x q same = rw (eq-eqb x.of q same) refl

other_hub : (x : HubEntry) (q : ℕ) → x.of ≢ q → entries_of_hub (x ∷ []) q ≡ []
other_hub x q other = rw (ne_eqb x.of q other) refl

-- an entry of the lists is one of its hub
pub to_hub : (es : List HubEntry) (q : ℕ) (e : Entry) → Contains es (hub_entry q e) → Contains (entries_of_hub es q) e
to_hub [] q e there = absurd (Contains-empty (hub_entry q e) there)
to_hub (x ∷ es) q e there =
    subst (λ ys. Contains ys e) (sym (entries_of_hub-append (x ∷ []) es q))
    (elim (Contains-cons_cases x (hub_entry q e) es there) [
      | inl same ↦
          Contains-append_left (entries_of_hub (x ∷ []) q) (entries_of_hub es q) e
          (subst (λ ys. Contains ys e) (sym (same_hub x q (ap (λ (y : HubEntry). y.of) same) ∙ ap (λ (y : HubEntry). y.entry ∷ []) same)) (Contains-first e []))
      | inr later ↦ Contains-append_right (entries_of_hub (x ∷ []) q) (entries_of_hub es q) e (to_hub es q e later)
    ])

-- and an entry of a hub is one of the lists
pub of_hub : (es : List HubEntry) (q : ℕ) (e : Entry) → Contains (entries_of_hub es q) e → Contains es (hub_entry q e)
of_hub [] q e there = absurd (Contains-empty e there)
of_hub (x ∷ es) q e there = elim (Contains-append_cases (entries_of_hub (x ∷ []) q) (entries_of_hub es q) e (subst (λ ys. Contains ys e) (entries_of_hub-append (x ∷ []) es q) there)) [
  | inr later ↦ Contains-next x (hub_entry q e) es (of_hub es q e later)
  | inl here ↦ elim (cases_eq x.of q) [
    | inr other ↦ absurd (Contains-empty e (subst (λ ys. Contains ys e) (other_hub x q other) here))
    | inl same ↦ elim (Contains-cons_cases x.entry e [] (subst (λ ys. Contains ys e) (same_hub x q same) here)) [
      | inl is ↦ subst (Contains (x ∷ es)) (ap (λ u. hub_entry u x.entry) same ∙ ap (hub_entry q) is) (Contains-first x es)
      | inr none ↦ absurd (Contains-empty e none)
    ]
  ]
]

-- one row changes, and the others stay
module _ (rows : List (Vec Entry Global)) (i : ℕ) (row : Vec Entry Global) (within : i < length rows) where
  pub row_now : get_or (items_of (set rows i row)) i [] ≡ row.items
  row_now = ap (λ rs. get_or rs i []) (map-set (λ (r : Vec Entry Global). r.items) rows i row) ∙ get_or-set_same (items_of rows) i row.items [] (omega (arith, within, length-map rows (λ (r : Vec Entry Global). r.items)))

  pub row_still : (j : ℕ) → j ≢ i → get_or (items_of (set rows i row)) j [] ≡ get_or (items_of rows) j []
  row_still j other = ap (λ rs. get_or rs j []) (map-set (λ (r : Vec Entry Global). r.items) rows i row) ∙ get_or-set_other (items_of rows) i j row.items [] other

-- what a row has is what stands at its place
pub row_there : (rows : List (Vec Entry Global)) (i : ℕ) (d : Vec Entry Global) → i < length rows → get_or (items_of rows) i [] ≡ (get_or rows i d).items
row_there rows i d within = get_or-map (λ (r : Vec Entry Global). r.items) rows i d [] within

-- the entries of a hub among those so far, and the next one
module _ (entries : List HubEntry) (i : ℕ) (x : HubEntry) (is : x ≡ get_or entries i x) (within : i < length entries) (q : ℕ) where
  one_more : entries_of_hub (take (i + 1) entries) q ≡ entries_of_hub (take i entries) q ++ entries_of_hub (x ∷ []) q
  one_more =
      ap (λ es. entries_of_hub es q) (take_more entries i x within) ∙ entries_of_hub-append (take i entries) (get_or entries i x ∷ []) q
      ∙ ap (λ y. entries_of_hub (take i entries) q ++ entries_of_hub (y ∷ []) q) (sym is)

  pub hub_after : x.of ≡ q → entries_of_hub (take (i + 1) entries) q ≡ entries_of_hub (take i entries) q ++ x.entry ∷ []
  hub_after same = one_more ∙ ap (λ es. entries_of_hub (take i entries) q ++ es) (same_hub x q same)

  pub hub_still : x.of ≢ q → entries_of_hub (take (i + 1) entries) q ≡ entries_of_hub (take i entries) q
  hub_still other = one_more ∙ ap (λ es. entries_of_hub (take i entries) q ++ es) (other_hub x q other) ∙ append-nil (entries_of_hub (take i entries) q)

-- rows in which the entries of their hubs stand, sorted, are gathered
module _ (first next : ℕ) (entries : List HubEntry) (rows : List (Vec Entry Global)) (enough : next - first ≤ length rows) (sorted : (k : ℕ) → k < next - first → IsGatheredRow (entries_of_hub entries (first + k)) (get_or (items_of rows) k [])) where
  abbrev used : List (List Entry)
  used = take (next - first) (items_of rows)

  sorted_row : (q : ℕ) → first ≤ q → q < next → IsGatheredRow (entries_of_hub entries q) (get_or used (q - first) [])
  sorted_row q from low =
      let place : first + (q - first) ≡ q = omega (arith, from) in
      let within : q - first < next - first = omega (arith, from, low) in
      subst (IsGatheredRow (entries_of_hub entries q)) (sym (get_or-take (next - first) (items_of rows) (q - first) [] within))
      (subst (λ p. IsGatheredRow (entries_of_hub entries p) (get_or (items_of rows) (q - first) [])) place (sorted (q - first) within))

  pub AreGathered-sorted : AreGathered first next entries (record { first = first; rows = take (next - first) (items_of rows) })
  AreGathered-sorted = record {
    first_is = refl;
    size = omega (arith, enough, length-take (next - first) (items_of rows), length-map rows (λ (r : Vec Entry Global). r.items));
    each = λ q from low e.
        let is = sorted_row q from low in
        let row = get_or used (q - first) [] in
        let of = entries_of_hub entries q in (
          λ h. of_hub entries q e (Contains-permutation row of e (IsPermutation-sym of row is.same) h),
          λ h. Contains-permutation of row e is.same (to_hub entries q e h),
        );
    rising = λ q from low once. let is = sorted_row q from low in (IsSortedRow-from_sort (entries_of_hub entries q) (get_or used (q - first) []) once is.same is.rising).rising;
  }
