-- Label rows: their positions rise, so their entries decide them, and there is one canonical hub labelling.
use Rattle.std.proofs.Common.{◌≡◌, ℕ, suc, ◌+◌, ◌-◌, ◌<◌, List, [], ◌∷◌, length, map, get_or, AllPairs, Contains, refl, sym, ap, subst, inl, inr, arith}
use Rattle.std.proofs.lemmas.List.{get_or-map, length-map, ext_get_or}
use Rattle.std.proofs.lemmas.List.Kept.{AllPairs-from_increasing}
use Rattle.walk_laws.specs.declared.entry.Entry.{Entry}
use Rattle.walk_laws.specs.Labelling.{IsRow, IsChl, label_row}
use Rattle.walk_laws.proofs.Members.{Contains-first, Contains-next, Contains-cons_cases, Contains-empty}

module _ {X : Type 0} (n : X → ℕ) where
  -- each number of the list is below those of all later elements
  abbrev pub Rises : List X → Type 0
  Rises xs = AllPairs (λ a b. a < b) (map n xs)

  -- what stands later has a greater number
  pub Rises-first : (x e : X) (xs : List X) → Rises (x ∷ xs) → Contains xs e → n x < n e
  Rises-first x e xs rises h =
      let far : n x < get_or (map n xs) h.0 0 = rises 0 (suc h.0) 0 (omega arith) (omega (arith, length-map xs n, h.1)) in
      omega (arith, get_or-map n xs h.0 e 0 h.1, ap n h.2)

  pub Rises-rest : (x : X) (xs : List X) → Rises (x ∷ xs) → Rises xs
  Rises-rest x xs rises i j d lt within = rises (suc i) (suc j) d (omega arith) (omega arith)

  first_of_both : (x y : X) (xs ys : List X) → Rises (x ∷ xs) → Rises (y ∷ ys) → Contains (y ∷ ys) x → Contains (x ∷ xs) y → x ≡ y
  first_of_both x y xs ys up others_up there back =
      elim (Contains-cons_cases y x ys there) [
        | inl same ↦ sym same
        | inr later ↦ elim (Contains-cons_cases x y xs back) [
          | inl same ↦ same
          | inr too ↦ absurd (omega (arith, Rises-first y x ys others_up later, Rises-first x y xs up too))
        ]
      ]

  still_there : (x y e : X) (xs ys : List X) → x ≡ y → Rises (x ∷ xs) → Contains xs e → Contains (y ∷ ys) e → Contains ys e
  still_there x y e xs ys same up here there =
      elim (Contains-cons_cases y e ys there) [
        | inl first ↦ absurd (omega (arith, Rises-first x e xs up here, ap n same, ap n first))
        | inr later ↦ later
      ]

  -- two rising lists with the same elements are one
  pub Rises-same : (xs ys : List X) → Rises xs → Rises ys → ((e : X) → Contains xs e → Contains ys e) → ((e : X) → Contains ys e → Contains xs e) → xs ≡ ys
  Rises-same [] [] up others_up there back = refl
  Rises-same [] (y ∷ ys) up others_up there back = absurd (Contains-empty y (back y (Contains-first y ys)))
  Rises-same (x ∷ xs) [] up others_up there back = absurd (Contains-empty x (there x (Contains-first x xs)))
  Rises-same (x ∷ xs) (y ∷ ys) up others_up there back =
      let same = first_of_both x y xs ys up others_up (there x (Contains-first x xs)) (back y (Contains-first y ys)) in
      let rest = Rises-same xs ys (Rises-rest x xs up) (Rises-rest y ys others_up) (λ e h. still_there x y e xs ys same up h (there e (Contains-next x e xs h))) (λ e h. still_there y x e ys xs (sym same) others_up h (back e (Contains-next y e ys h))) in
      cc

-- the rows of two canonical hub labellings at a node are one
pub IsRow-unique : (J : ℕ → ℕ → ℕ → Type 0) (at : List ℕ) (v : ℕ) (row others : List Entry) → IsRow J at v row → IsRow J at v others → row ≡ others
IsRow-unique J at v row others a b =
    Rises-same (λ e. e.pos) row others (AllPairs-from_increasing (map (λ e. e.pos) row) a.rising) (AllPairs-from_increasing (map (λ e. e.pos) others) b.rising) (λ e h. (b.each e).1 ((a.each e).0 h)) (λ e h. (a.each e).1 ((b.each e).0 h))

-- there is one canonical hub labelling
pub IsChl-unique : (J : ℕ → ℕ → ℕ → Type 0) (at : List ℕ) (rows others : List (List Entry)) → IsChl J at rows → IsChl J at others → rows ≡ others
IsChl-unique J at rows others a b = ext_get_or [] rows others (omega (arith, a.size, b.size)) same_row
  where
    same_row : (k : ℕ) → k < length rows → get_or rows k [] ≡ get_or others k []
    same_row k lt =
        let back : k + 1 - 1 ≡ k = omega arith in
        let is = IsRow-unique J at (k + 1) (label_row rows (k + 1)) (label_row others (k + 1)) (a.row (k + 1) (omega arith) (omega (arith, a.size))) (b.row (k + 1) (omega arith) (omega (arith, a.size))) in
        subst (λ i. get_or rows i [] ≡ get_or others i []) back is
