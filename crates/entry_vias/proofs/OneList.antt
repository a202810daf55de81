-- Rows have one list of vias, and lists of vias of neighbouring nodes are put together.
use Rattle.std.specs.List.{AllZip}
use Rattle.std.proofs.Common.{◌≡◌, ℕ, ◌+◌, ◌-◌, ◌<◌, List, [], ◌∷◌, ◌++◌, length, get_or, refl, sym, ap, subst, ◌∙◌, inl, inr, arith}
use Rattle.std.proofs.lemmas.Bool.{cases_lt, cases_eq}
use Rattle.std.proofs.lemmas.List.{ext_get_or, length-append, get_or_append_left, get_or-append_right, get_or_push}
use Rattle.walk_laws.specs.declared.entry.Entry.{Entry}
use Rattle.walk_laws.specs.Labelling.{label_row}
use Rattle.entry_vias.specs.RowVias.{IsRowVia, AreRowVias, AreVias, via_row}
use Rattle.entry_vias.specs.ViaRanges.{AreViasFrom}

module _ (J : ℕ → ℕ → ℕ → Type 0) (rows : List (List Entry)) where
  -- an entry has one via
  one_via : (v : ℕ) (e : Entry) (x y : ℕ) → IsRowVia J rows v e x → IsRowVia J rows v e y → x ≡ y
  one_via v e x y a b = elim a [
    | inl first ↦ elim b [
      | inl second ↦ omega (arith, first.least y second.nearer, second.least x first.nearer)
      | inr none ↦ absurd (none.1 x first.nearer)
    ]
    | inr none ↦ elim b [
      | inl second ↦ absurd (none.1 y second.nearer)
      | inr also ↦ none.0 ∙ sym also.0
    ]
  ]

  one_row : (v : ℕ) (row : List Entry) (xs ys : List ℕ) → AllZip (IsRowVia J rows v) row xs → AllZip (IsRowVia J rows v) row ys → xs ≡ ys
  one_row v [] [] [] a b = refl
  one_row v [] [] (y ∷ ys) a b = absurd b
  one_row v [] (x ∷ xs) ys a b = absurd a
  one_row v (e ∷ row) [] ys a b = absurd a
  one_row v (e ∷ row) (x ∷ xs) [] a b = absurd b
  one_row v (e ∷ row) (x ∷ xs) (y ∷ ys) a b = ap (λ z. z ∷ xs) (one_via v e x y a.0 b.0) ∙ ap (λ zs. y ∷ zs) (one_row v row xs ys a.1 b.1)

  -- the vias of the node at a place
  row_at : (k : ℕ) (vias : List (List ℕ)) → AreVias J rows vias → k < length vias → AreRowVias J rows (k + 1) (get_or vias k [])
  row_at k vias are lt =
      let place : k + 1 - 1 ≡ k = omega arith in
      subst (λ i. AreRowVias J rows (k + 1) (get_or vias i [])) place (are.row (k + 1) (omega arith) (omega (arith, are.size, lt)))

  pub AreVias-one : (vias others : List (List ℕ)) → AreVias J rows vias → AreVias J rows others → vias ≡ others
  AreVias-one vias others a b =
      ext_get_or [] vias others (omega (arith, a.size, b.size))
      (λ k lt. one_row (k + 1) (label_row rows (k + 1)) (get_or vias k []) (get_or others k []) (row_at k vias a lt) (row_at k others b (omega (arith, a.size, b.size, lt))))

  -- those of all nodes are all vias
  pub AreVias-all : (to : ℕ) (vias : List (List ℕ)) → to ≡ length rows → AreViasFrom J rows 0 to vias → AreVias J rows vias
  AreVias-all to vias all are = record {
    size = omega (arith, are.size, all);
    row = λ v from_one up_to_n.
        let place : v - 0 ≡ v = omega arith in
        subst (λ i. AreRowVias J rows v (via_row vias i)) place (are.row v (omega (arith, from_one)) (omega (arith, up_to_n, all)));
  }

  -- no list yet
  pub AreViasFrom-none : (from : ℕ) (vias : List (List ℕ)) → vias ≡ [] → AreViasFrom J rows from from vias
  AreViasFrom-none from vias none = record {
    size = omega (arith, ap length none);
    row = λ v past within. absurd (omega (arith, past, within));
  }

  -- one list more
  pub AreViasFrom-push : (from place : ℕ) (vias : List (List ℕ)) (row : List ℕ) → AreViasFrom J rows from place vias → AreRowVias J rows (place + 1) row → AreViasFrom J rows from (place + 1) (vias ++ row ∷ [])
  AreViasFrom-push from place vias row so_far last = record {
    size = omega (arith, so_far.size, length-append vias (row ∷ []));
    row = λ v past within. elim (cases_eq v (place + 1)) [
      | inr other ↦
          let inside : v - from - 1 < length vias = omega (arith, past, within, other, so_far.size) in
          subst (AreRowVias J rows v) (sym (get_or_append_left vias (row ∷ []) [] (v - from - 1) inside)) (so_far.row v past (omega (arith, within, other)))
      | inl same ↦
          let at_end : length vias ≡ v - from - 1 = omega (arith, same, so_far.size) in
          subst (AreRowVias J rows v) (sym (get_or_push vias row [] (v - from - 1) at_end)) (subst (λ x. AreRowVias J rows x row) (sym same) last)
    ];
  }

  -- lists after others
  pub AreViasFrom-append : (from mid to : ℕ) (first second : List (List ℕ)) → AreViasFrom J rows from mid first → AreViasFrom J rows mid to second → AreViasFrom J rows from to (first ++ second)
  AreViasFrom-append from mid to first second a b = record {
    size = omega (arith, a.size, b.size, length-append first second);
    row = λ v past within. elim (cases_lt mid v) [
      | inr before ↦
          let inside : v - from - 1 < length first = omega (arith, past, before, a.size) in
          subst (AreRowVias J rows v) (sym (get_or_append_left first second [] (v - from - 1) inside)) (a.row v past before)
      | inl after ↦
          let place : v - from - 1 - length first ≡ v - mid - 1 = omega (arith, past, after, a.size) in
          subst (AreRowVias J rows v) (sym (get_or-append_right first second (length first) (v - from - 1) [] refl (omega (arith, past, after, a.size)) ∙ ap (λ i. get_or second i []) place)) (b.row v after within)
    ];
  }
