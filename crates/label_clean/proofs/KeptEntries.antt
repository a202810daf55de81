-- What is kept of a row, entry by entry.
use Rattle.std.proofs.Common.{◌≡◌, ◌≢◌, ℕ, ◌+◌, ◌<◌, ◌≤◌, List, [], ◌∷◌, ◌++◌, Contains, length, map, get_or, take, sym, ap, subst, ◌∙◌, inl, inr, arith}
use Rattle.std.proofs.lemmas.List.{take_all, length-map, length-take, get_or-map, get_or-take, get_or_default, map-append, take_more}
use Rattle.std.proofs.lemmas.List.Elements.{All-append, All-contains_itself, All-map, All-weaker, Contains-append_left, Contains-append_right, Contains-append_cases, Contains-get_or}
use Rattle.std.proofs.lemmas.List.Kept.{AllPairs-cons}
use Rattle.std.proofs.lemmas.List.Quantifiers.{all_pairs_push}
use Rattle.walk_laws.specs.declared.entry.Entry.{Entry}
use Rattle.walk_laws.proofs.LabelRows.{Rises, Rises-first, Rises-rest}
use Rattle.walk_laws.proofs.Members.{Contains-first, Contains-next, Contains-cons_cases, Contains-empty}
use Rattle.std.proofs.lemmas.Bool.Decides.{Decides-eqb}
use Rattle.std.proofs.lemmas.Map.Made.{AllPairs-from_IsDistinct, IsDistinct-from_AllPairs}
use Rattle.std.specs.List.{AllPairs}
use Rattle.label_clean.specs.RawRows.{HasEachOnce}
use Rattle.label_clean.specs.Kept.{IsKept}
use Rattle.label_clean.proofs.Covering.{pos_of}
use Rattle.label_clean.proofs.RowFacts.{one_place}

-- a rising row still rises with an entry after it that is above all others
pub Rises-push : (xs : List Entry) (x : Entry) → Rises pos_of xs → ((e : Entry) → Contains xs e → e.pos < x.pos) → Rises pos_of (xs ++ x ∷ [])
Rises-push xs x up below =
    subst (λ ks. (i j d : ℕ) → i < j → j < length ks → get_or ks i d < get_or ks j d) (sym (map-append pos_of xs (x ∷ [])))
    (all_pairs_push (λ a b. a < b) (map pos_of xs) x.pos up far)
  where
    far : (k d : ℕ) → k < length (map pos_of xs) → get_or (map pos_of xs) k d < x.pos
    far k d lt =
        let within : k < length xs = omega (arith, length-map xs pos_of) in
        omega (arith, get_or-map pos_of xs k x d within, below (get_or xs k x) (Contains-get_or xs k x within))

-- two rising rows, one after the other
pub Rises-append : (xs ys : List Entry) → Rises pos_of xs → Rises pos_of ys → ((e f : Entry) → Contains xs e → Contains ys f → e.pos < f.pos) → Rises pos_of (xs ++ ys)
Rises-append [] ys up more below = more
Rises-append (x ∷ xs) ys up more below =
    AllPairs-cons (λ a b. a < b) x.pos (map pos_of (xs ++ ys))
    (All-map (λ q. x.pos < q) pos_of (xs ++ ys)
    (All-append (λ (e : Entry). x.pos < e.pos) xs ys
    (All-weaker (Contains xs) (λ (e : Entry). x.pos < e.pos) (λ e h. Rises-first pos_of x e xs up h) xs (All-contains_itself xs))
    (All-weaker (Contains ys) (λ (e : Entry). x.pos < e.pos) (λ e h. below x e (Contains-first x xs) h) ys (All-contains_itself ys))))
    (Rises-append xs ys (Rises-rest pos_of x xs up) more (λ e f h k. below e f (Contains-next x e xs h) k))

-- entries at different positions, and one more at another
each_once-push : (xs : List Entry) (x : Entry) → HasEachOnce xs → ((e : Entry) → Contains xs e → e.pos ≢ x.pos) → HasEachOnce (xs ++ x ∷ [])
each_once-push xs x once other =
    IsDistinct-from_AllPairs Decides-eqb (map pos_of (xs ++ x ∷ []))
    (subst (AllPairs (λ a b. a ≢ b)) (sym (map-append pos_of xs (x ∷ [])))
    (all_pairs_push (λ a b. a ≢ b) (map pos_of xs) x.pos (AllPairs-from_IsDistinct Decides-eqb (map pos_of xs) once) far))
  where
    far : (k d : ℕ) → k < length (map pos_of xs) → get_or (map pos_of xs) k d ≢ x.pos
    far k d lt same =
        let within : k < length xs = omega (arith, length-map xs pos_of) in
        other (get_or xs k x) (Contains-get_or xs k x within) (sym (get_or-map pos_of xs k x d within) ∙ same)

-- in such a row the entries before a place have other positions than the one that stands there
before_place : (row : List Entry) (i : ℕ) (d e : Entry) → HasEachOnce row → i < length row → Contains (take i row) e → e.pos ≢ (get_or row i d).pos
before_place row i d e once within (k, k_within, is) same =
    let before : k < i = omega (arith, length-take i row) in
    let there : get_or row k e ≡ e = sym (get_or-take i row k e before) ∙ is in
    one_place row k i e (get_or row i d) once before within there (get_or_default row i (get_or row i d) d within) same

module _ (P : Entry → Type 0) where
  pub IsKept-none : IsKept P [] []
  IsKept-none = record {
    once = IsDistinct-from_AllPairs Decides-eqb [] (λ i j d lt within. absurd (omega (arith, within)));
    each = λ e. (λ h. absurd (Contains-empty e h), λ h. absurd (Contains-empty e h.0));
  }

  one_more_kept : (row kept : List Entry) (x : Entry) → IsKept P row kept → ((e : Entry) → Contains row e → e.pos ≢ x.pos) → ¬ P x → IsKept P (row ++ x ∷ []) (kept ++ x ∷ [])
  one_more_kept row kept x so_far other good = record {
    once = each_once-push kept x so_far.once (λ e h. other e ((so_far.each e).0 h).0);
    each = λ e. (there e, back e);
  }
    where
      there : (e : Entry) → Contains (kept ++ x ∷ []) e → Contains (row ++ x ∷ []) e × ¬ P e
      there e h = elim (Contains-append_cases kept (x ∷ []) e h) [
        | inl earlier ↦ let known = (so_far.each e).0 earlier in (Contains-append_left row (x ∷ []) e known.0, known.1)
        | inr last ↦ elim (Contains-cons_cases x e [] last) [
          | inl same ↦ subst (λ y. Contains (row ++ x ∷ []) y × ¬ P y) same (Contains-append_right row (x ∷ []) x (Contains-first x []), good)
          | inr none ↦ absurd (Contains-empty e none)
        ]
      ]

      back : (e : Entry) → Contains (row ++ x ∷ []) e × ¬ P e → Contains (kept ++ x ∷ []) e
      back e h = elim (Contains-append_cases row (x ∷ []) e h.0) [
        | inl earlier ↦ Contains-append_left kept (x ∷ []) e ((so_far.each e).1 (earlier, h.1))
        | inr last ↦ Contains-append_right kept (x ∷ []) e last
      ]

  one_left_out : (row kept : List Entry) (x : Entry) → IsKept P row kept → P x → IsKept P (row ++ x ∷ []) kept
  one_left_out row kept x so_far bad = record {
    once = so_far.once;
    each = λ e. (λ h. let known = (so_far.each e).0 h in (Contains-append_left row (x ∷ []) e known.0, known.1), back e);
  }
    where
      back : (e : Entry) → Contains (row ++ x ∷ []) e × ¬ P e → Contains kept e
      back e h = elim (Contains-append_cases row (x ∷ []) e h.0) [
        | inl earlier ↦ (so_far.each e).1 (earlier, h.1)
        | inr last ↦ elim (Contains-cons_cases x e [] last) [
          | inl same ↦ absurd (h.1 (subst P same bad))
          | inr none ↦ absurd (Contains-empty e none)
        ]
      ]

  module _ (row kept : List Entry) (i : ℕ) (x : Entry) (is : x ≡ get_or row i x) (within : i < length row) (so_far : IsKept P (take i row) kept) where
    cut : take (i + 1) row ≡ take i row ++ x ∷ []
    cut = take_more row i x within ∙ ap (λ y. take i row ++ y ∷ []) (sym is)

    -- the entry at the place is kept
    pub IsKept-with : HasEachOnce row → ¬ P x → IsKept P (take (i + 1) row) (kept ++ x ∷ [])
    IsKept-with once good =
        subst (λ xs. IsKept P xs (kept ++ x ∷ [])) (sym cut) (one_more_kept (take i row) kept x so_far (λ e h same. before_place row i x e once within h (same ∙ ap pos_of is)) good)

    -- or left out
    pub IsKept-without : P x → IsKept P (take (i + 1) row) kept
    IsKept-without bad = subst (λ xs. IsKept P xs kept) (sym cut) (one_left_out (take i row) kept x so_far bad)

  -- after the last entry the whole row has been gone through
  pub IsKept-whole : (row kept : List Entry) (i : ℕ) → length row ≤ i → IsKept P (take i row) kept → IsKept P row kept
  IsKept-whole row kept i over so_far = subst (λ xs. IsKept P xs kept) (take_all i row over) so_far
