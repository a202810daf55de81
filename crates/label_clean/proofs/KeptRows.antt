-- What is kept of rows, row by row.
use Rattle.std.proofs.Common.{◌≡◌, ◌≢◌, inl, inr, ℕ, ◌+◌, ◌-◌, ◌<◌, ◌≤◌, Option, None, List, [], ◌∷◌, ◌++◌, Vec, Global, length, map, get_or, refl, sym, ap, subst, ◌∙◌, arith}
use Rattle.std.specs.List.Sorted.{IsStrictlyIncreasing}
use Rattle.std.proofs.lemmas.Bool.{cases_lt, cases_eq}
use Rattle.std.proofs.lemmas.Bool.Decides.{Decides-eqb}
use Rattle.std.proofs.lemmas.List.{get_or_append_left, get_or-append_right, get_or_push, length-append}
use Rattle.std.proofs.lemmas.List.Elements.{All-contains}
use Rattle.std.proofs.lemmas.List.Kept.{AllPairs-from_increasing}
use Rattle.std.proofs.lemmas.Map.Made.{IsDistinct-from_AllPairs}
use Rattle.walk_laws.specs.declared.entry.Entry.{Entry}
use Rattle.walk_laws.specs.Labelling.{label_row}
use Rattle.label_clean.specs.RawRows.{HasEachOnce}
use Rattle.label_clean.specs.Needless.{IsNeedless, IsSurvivingRow}
use Rattle.label_clean.specs.Kept.{IsKeptRow, AreKeptRows, HasSurvivors}
use Rattle.label_clean.specs.Sorted.{IsSortedRow}
use Rattle.label_clean.proofs.Covering.{pos_of}

-- rising positions differ
pub once_from_rising : (row : List Entry) → IsStrictlyIncreasing (map pos_of row) → HasEachOnce row
once_from_rising row rising =
    IsDistinct-from_AllPairs Decides-eqb (map pos_of row) (λ i j d before within same. let up = AllPairs-from_increasing (map pos_of row) rising i j d before within in omega (arith, up, same))

module _ (at : List ℕ) (tested : List (List Entry)) where
  abbrev Kept : Type 0
  Kept = List (Option (Vec Entry Global))

  -- no row yet
  pub AreKeptRows-none : (from : ℕ) (kept : Kept) → kept ≡ [] → AreKeptRows at tested from from kept
  AreKeptRows-none from kept none = record {
    size = let empty = ap length none in omega (arith, empty);
    each = λ k within. let empty = ap length none in absurd (omega (arith, empty, within));
  }

  -- one row more
  pub AreKeptRows-push : (from place : ℕ) (kept : Kept) (row : Option (Vec Entry Global)) → AreKeptRows at tested from place kept → IsKeptRow at tested (place + 1) row → AreKeptRows at tested from (place + 1) (kept ++ row ∷ [])
  AreKeptRows-push from place kept row so_far last = record {
    size = omega (arith, so_far.size, length-append kept (row ∷ []));
    each = λ k within. elim (cases_lt k (length kept)) [
      | inl earlier ↦ subst (IsKeptRow at tested (from + k + 1)) (sym (get_or_append_left kept (row ∷ []) None k earlier)) (so_far.each k earlier)
      | inr later ↦
          let is : length kept ≡ k = omega (arith, later, within, length-append kept (row ∷ [])) in
          let node : place + 1 ≡ from + k + 1 = omega (arith, is, so_far.size) in
          subst (IsKeptRow at tested (from + k + 1)) (sym (get_or_push kept row None k is)) (subst (λ v. IsKeptRow at tested v row) node last)
    ];
  }

  -- rows after others
  pub AreKeptRows-append : (from mid to : ℕ) (first second : Kept) → AreKeptRows at tested from mid first → AreKeptRows at tested mid to second → AreKeptRows at tested from to (first ++ second)
  AreKeptRows-append from mid to first second a b = record {
    size = omega (arith, a.size, b.size, length-append first second);
    each = λ k within. elim (cases_lt k (length first)) [
      | inl earlier ↦ subst (IsKeptRow at tested (from + k + 1)) (sym (get_or_append_left first second None k earlier)) (a.each k earlier)
      | inr later ↦
          let rest : k - length first < length second = omega (arith, later, within, length-append first second) in
          let node : mid + (k - length first) + 1 ≡ from + k + 1 = omega (arith, later, a.size) in
          subst (IsKeptRow at tested (from + k + 1)) (sym (get_or-append_right first second (length first) k None refl later))
          (subst (λ v. IsKeptRow at tested v (get_or second (k - length first) None)) node (b.each (k - length first) rest))
    ];
  }

  -- a row of which nothing is needless has its survivors
  pub HasSurvivors-all : (v : ℕ) (row : List Entry) → row ≡ label_row tested v → HasEachOnce (label_row tested v) → IsKeptRow at tested v None → HasSurvivors at tested v row
  HasSurvivors-all v row is once stay =
      subst (HasSurvivors at tested v) (sym is)
      (record { once = once; each = λ e. (λ h. (h, All-contains (λ x. IsNeedless at tested v x → ⊥) (label_row tested v) e stay h), λ h. h.0) })

  -- sorted they survive
  pub IsSurvivingRow-sorted : (v : ℕ) (row sorted : List Entry) → HasSurvivors at tested v row → IsSortedRow row sorted → IsSurvivingRow at tested v sorted
  IsSurvivingRow-sorted v row sorted has is = record {
    rising = is.rising;
    each = λ e. (λ h. (has.each e).0 ((is.each e).0 h), λ h. (is.each e).1 ((has.each e).1 h));
  }

  -- rows of which the last so many are replaced by what is kept of them
  pub record AreReplaced (n : ℕ) (left : Kept) (rows : List (List Entry)) : Type 0 where
    pub size : length rows ≡ n
    pub few : length left ≤ n
    pub kept : (k : ℕ) → k < length left → IsKeptRow at tested (k + 1) (get_or left k None)
    pub below : (k : ℕ) → k < length left → get_or rows k [] ≡ label_row tested (k + 1)
    pub above : (k : ℕ) → length left ≤ k → k < n → HasSurvivors at tested (k + 1) (get_or rows k [])

  -- none so far
  pub AreReplaced-none : (n : ℕ) (left : Kept) (rows : List (List Entry)) → length rows ≡ n → AreKeptRows at tested 0 n left → rows ≡ tested → AreReplaced n left rows
  AreReplaced-none n left rows size are same = record {
    size = size;
    few = omega (arith, are.size);
    kept = λ k within. let node : 0 + k + 1 ≡ k + 1 = omega arith in subst (λ v. IsKeptRow at tested v (get_or left k None)) node (are.each k within);
    below = λ k within. let place : k ≡ k + 1 - 1 = omega arith in ap (λ rows. get_or rows k []) same ∙ ap (λ i. get_or tested i []) place;
    above = λ k past within. absurd (omega (arith, past, within, are.size));
  }

  -- what is to come of the last row that is left
  module _ (n : ℕ) (left : Kept) (row : Option (Vec Entry Global)) (rows : List (List Entry)) (so_far : AreReplaced n (left ++ row ∷ []) rows) where
    longer : length (left ++ row ∷ []) ≡ length left + 1
    longer = length-append left (row ∷ [])

    pub last_within : length left < n
    last_within = omega (arith, so_far.few, longer)

    pub last_kept : IsKeptRow at tested (length left + 1) row
    last_kept = subst (IsKeptRow at tested (length left + 1)) (get_or_push left row None (length left) refl) (so_far.kept (length left) (omega (arith, longer)))

    pub last_row : get_or rows (length left) [] ≡ label_row tested (length left + 1)
    last_row = so_far.below (length left) (omega (arith, longer))

    -- it is then as it is to be, and the others are as before
    pub AreReplaced-more : (now : List (List Entry)) → length now ≡ length rows → ((k : ℕ) → k ≢ length left → get_or now k [] ≡ get_or rows k []) → HasSurvivors at tested (length left + 1) (get_or now (length left) []) → AreReplaced n left now
    AreReplaced-more now size others here = record {
      size = size ∙ so_far.size;
      few = omega (arith, so_far.few, longer);
      kept = λ k within. subst (IsKeptRow at tested (k + 1)) (get_or_append_left left (row ∷ []) None k within) (so_far.kept k (omega (arith, within, longer)));
      below = λ k within. others k (λ is. omega (arith, is, within)) ∙ so_far.below k (omega (arith, within, longer));
      above = λ k past within. elim (cases_eq k (length left)) [
        | inl is ↦ subst (λ i. HasSurvivors at tested (i + 1) (get_or now i [])) (sym is) here
        | inr other ↦ subst (HasSurvivors at tested (k + 1)) (sym (others k other)) (so_far.above k (omega (arith, past, other, longer)) within)
      ];
    }
