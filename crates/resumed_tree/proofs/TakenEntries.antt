-- A row by rising position that has an entry in place of a longer one of its hub, or where the row parts.
use Rattle.std.proofs.Common.{◌≡◌, ◌≢◌, inl, inr, ℕ, ◌+◌, ◌-◌, ◌<◌, ◌≤◌, List, ◌∷◌, Contains, length, map, get_or, insert, set, take, drop, get_or-set_other, get_or-set_same, refl, sym, ap, subst, ◌∙◌, arith}
use Rattle.std.specs.List.Sorted.{IsStrictlyIncreasing}
use Rattle.std.proofs.Math.ListN.{length-set}
use Rattle.std.proofs.Math.Seq.{map-set_same}
use Rattle.std.proofs.lemmas.Bool.{cases_eq, cases_lt}
use Rattle.std.proofs.lemmas.List.{get_or-drop, get_or-map, get_or-take, length-drop, length-map, length-take, take-append-drop}
use Rattle.std.proofs.lemmas.List.Edits.{get_or-insert_above, get_or-insert_at, get_or-insert_below, length-insert}
use Rattle.std.proofs.lemmas.List.Elements.{All-contains, Contains-append_cases}
use Rattle.std.proofs.lemmas.List.Sorted.{Contains-permutation, IsPermutation-insert, IsPermutation-sym}
use Rattle.std.proofs.lemmas.Option.{slice_get_within, get_or_from_slice_get}
use Rattle.walk_laws.specs.declared.entry.Entry.{Entry}
use Rattle.walk_laws.proofs.Members.{Contains-cons_cases, Contains-first, Contains-next}
use Rattle.resumed_tree.specs.Taken.{IsLonger, PartsAt, IsTaken}
use Rattle.resumed_tree.proofs.Stands.{pos_of, rises}

-- in a row by rising position an entry of a hub has one place
one_place : (row : List Entry) → IsStrictlyIncreasing (map pos_of row) → (i j : ℕ) (d : Entry) → i < length row → j < length row → (get_or row i d).pos ≡ (get_or row j d).pos → i ≡ j
one_place row rising i j d i_within j_within same = elim (cases_eq i j) [
  | inl is ↦ is
  | inr other ↦ elim (cases_lt i j) [
    | inl before ↦ absurd (omega (arith, same, rises row rising i j d before j_within))
    | inr after ↦ absurd (omega (arith, same, rises row rising j i d (omega (arith, after, other)) i_within))
  ]
]

module _ (row : List Entry) (e : Entry) (rising : IsStrictlyIncreasing (map pos_of row)) where
  -- in place of a longer one
  module _ (k : ℕ) (long : IsLonger row k e) where
    within : k < length row
    within = slice_get_within row k long.entry long.there

    was : (d : Entry) → get_or row k d ≡ long.entry
    was d = get_or_from_slice_get row k long.entry d long.there

    -- an entry of the hub stood at that place
    place : (d : ℕ) (there : Contains row (record { pos = e.pos; dist = d })) → there.0 ≡ k
    place d there =
        one_place row rising there.0 k (record { pos = e.pos; dist = d }) there.1 within (ap pos_of there.2 ∙ sym long.hub ∙ sym (ap pos_of (was (record { pos = e.pos; dist = d }))))

    -- what stands at another place stood there before
    elsewhere : (f : Entry) (j : ℕ) → j ≢ k → get_or (set row k e) j f ≡ get_or row j f
    elsewhere f j other = get_or-set_other row k j e f other

    here_now : (f : Entry) → get_or (set row k e) k f ≡ e
    here_now f = get_or-set_same row k e f within

    pub IsTaken-instead : IsTaken row (set row k e) e
    IsTaken-instead = record {
      there = (k, omega (arith, within, length-set row k e), here_now e);
      alone = λ d there. elim (cases_eq there.0 k) [
        | inl here ↦
            let is : e ≡ record { pos = e.pos; dist = d } = sym (here_now (record { pos = e.pos; dist = d })) ∙ ap (λ j. get_or (set row k e) j (record { pos = e.pos; dist = d })) (sym here) ∙ there.2 in
            sym (ap (λ (f : Entry). f.dist) is)
        | inr other ↦
            let stood : Contains row (record { pos = e.pos; dist = d }) = (there.0, omega (arith, there.1, length-set row k e), sym (elsewhere (record { pos = e.pos; dist = d }) there.0 other) ∙ there.2) in
            absurd (other (place d stood))
      ];
      longer = λ d there.
          let is : long.entry ≡ record { pos = e.pos; dist = d } = sym (was (record { pos = e.pos; dist = d })) ∙ ap (λ j. get_or row j (record { pos = e.pos; dist = d })) (sym (place d there)) ∙ there.2 in
          let dist = ap (λ (f : Entry). f.dist) is in
          omega (arith, dist, long.long);
      others = λ q d differs. (
        λ there. elim (cases_eq there.0 k) [
          | inl here ↦
              let is : e ≡ record { pos = q; dist = d } = sym (here_now (record { pos = q; dist = d })) ∙ ap (λ j. get_or (set row k e) j (record { pos = q; dist = d })) (sym here) ∙ there.2 in
              absurd (differs (sym (ap pos_of is)))
          | inr other ↦ (there.0, omega (arith, there.1, length-set row k e), sym (elsewhere (record { pos = q; dist = d }) there.0 other) ∙ there.2)
        ],
        λ there. elim (cases_eq there.0 k) [
          | inl here ↦
              let is : long.entry ≡ record { pos = q; dist = d } = sym (was (record { pos = q; dist = d })) ∙ ap (λ j. get_or row j (record { pos = q; dist = d })) (sym here) ∙ there.2 in
              absurd (differs (sym (ap pos_of is) ∙ long.hub))
          | inr other ↦ (there.0, omega (arith, there.1, length-set row k e), elsewhere (record { pos = q; dist = d }) there.0 other ∙ there.2)
        ],
      );
      rising = subst IsStrictlyIncreasing (sym (map-set_same pos_of row k e e (sym long.hub ∙ sym (ap pos_of (was e))))) rising;
    }

  -- where the row parts: there none is of its hub
  module _ (k : ℕ) (parts : PartsAt row k e) where
    other_hub : (f : Entry) → Contains row f → f.pos ≢ e.pos
    other_hub f there same = elim (Contains-append_cases (take k row) (drop k row) f (subst (λ xs. Contains xs f) (sym (take-append-drop k row)) there)) [
      | inl early ↦ omega (arith, same, All-contains (λ x. x.pos < e.pos) (take k row) f parts.lesser early)
      | inr late ↦ omega (arith, same, All-contains (λ x. e.pos < x.pos) (drop k row) f parts.greater late)
    ]

    not_there : (d : ℕ) → Contains row (record { pos = e.pos; dist = d }) → ⊥
    not_there d there = other_hub (record { pos = e.pos; dist = d }) there refl

    -- what the row has then
    came : (f : Entry) → Contains (e ∷ row) f → Contains (insert row k e) f
    came f = Contains-permutation (e ∷ row) (insert row k e) f (IsPermutation-insert row k e)

    stood : (f : Entry) → Contains (insert row k e) f → Contains (e ∷ row) f
    stood f = Contains-permutation (insert row k e) (e ∷ row) f (IsPermutation-sym (e ∷ row) (insert row k e) (IsPermutation-insert row k e))

    lesser_at : (j : ℕ) → j < k → (get_or row j e).pos < e.pos
    lesser_at j early = omega (arith, parts.lesser j e (omega (arith, early, parts.within, length-take k row)), ap pos_of (get_or-take k row j e early))

    greater_at : (j : ℕ) → k ≤ j → j < length row → e.pos < (get_or row j e).pos
    greater_at j late within =
        let far : k + (j - k) ≡ j = omega (arith, late) in
        omega (arith, parts.greater (j - k) e (omega (arith, late, within, length-drop k row)), ap pos_of (get_or-drop k row (j - k) e), ap (λ i. (get_or row i e).pos) far)

    here_after : (j : ℕ) → k ≡ j → get_or (insert row k e) j e ≡ e
    here_after j is = subst (λ i. get_or (insert row k e) i e ≡ e) is (get_or-insert_at row k e e parts.within)

    late_after : (j : ℕ) → k < j → get_or (insert row k e) j e ≡ get_or row (j - 1) e
    late_after j late =
        let next : j - 1 + 1 ≡ j = omega (arith, late) in
        subst (λ i. get_or (insert row k e) i e ≡ get_or row (j - 1) e) next (get_or-insert_above row k e e (j - 1) (omega (arith, late)) parts.within)

    rises_after : (j : ℕ) → j < length row → pos_of (get_or (insert row k e) j e) < pos_of (get_or (insert row k e) (j + 1) e)
    rises_after j within = elim (cases_lt j k) [
      | inl early ↦
          let first = ap pos_of (get_or-insert_below row k e e j early parts.within) in
          elim (cases_eq k (j + 1)) [
            | inl last ↦ omega (arith, first, lesser_at j early, ap pos_of (here_after (j + 1) last))
            | inr more ↦
                let inside : j + 1 < k = omega (arith, early, more) in
                omega (arith, first, ap pos_of (get_or-insert_below row k e e (j + 1) inside parts.within), rises row rising j (j + 1) e (omega arith) (omega (arith, inside, parts.within)))
          ]
      | inr late ↦
          let second = ap pos_of (get_or-insert_above row k e e j late parts.within) in
          elim (cases_eq k j) [
            | inl here ↦ omega (arith, second, ap pos_of (here_after j here), greater_at j late within)
            | inr past ↦
                let after : k < j = omega (arith, late, past) in
                omega (arith, second, ap pos_of (late_after j after), rises row rising (j - 1) j e (omega (arith, after)) within)
          ]
    ]

    rising_after : IsStrictlyIncreasing (map pos_of (insert row k e))
    rising_after j inside =
        let size = length-insert row k e parts.within in
        let before : j + 1 < length (insert row k e) = omega (arith, inside, length-map (insert row k e) pos_of) in
        omega (arith, rises_after j (omega (arith, before, size)), get_or-map pos_of (insert row k e) j e 0 (omega (arith, before)), get_or-map pos_of (insert row k e) (j + 1) e 0 before)

    pub IsTaken-before : IsTaken row (insert row k e) e
    IsTaken-before = record {
      there = came e (Contains-first e row);
      alone = λ d there. elim (Contains-cons_cases e (record { pos = e.pos; dist = d }) row (stood (record { pos = e.pos; dist = d }) there)) [
        | inl is ↦ sym (ap (λ (f : Entry). f.dist) is)
        | inr old ↦ absurd (not_there d old)
      ];
      longer = λ d there. absurd (not_there d there);
      others = λ q d differs. (
        λ there. elim (Contains-cons_cases e (record { pos = q; dist = d }) row (stood (record { pos = q; dist = d }) there)) [
          | inl is ↦ absurd (differs (sym (ap pos_of is)))
          | inr old ↦ old
        ],
        λ there. came (record { pos = q; dist = d }) (Contains-next e (record { pos = q; dist = d }) row there),
      );
      rising = rising_after;
    }
