-- Rows whose positions differ: each position has one entry, and sorted they rise.
use Rattle.std.proofs.Common.{◌≡◌, ◌≢◌, ℕ, ◌+◌, ◌-◌, ◌<◌, ◌≤◌, true, false, eqb, List, [], ◌∷◌, All, Contains, length, map, get_or, replicate, add-one, refl, sym, ap, ◌∙◌, inl, inr, arith}
use Rattle.std.specs.List.Sorted.{IsPermutation, IsNonDecreasing, IsNonDecreasingBy}
use Rattle.std.proofs.lemmas.Bool.{eq-eqb, cases_eq, cases_lt}
use Rattle.std.proofs.lemmas.Bool.Decides.{eqb_tells}
use Rattle.std.proofs.lemmas.List.{get_or-map, get_or_default, get_or-replicate, length-map, length-replicate}
use Rattle.std.proofs.lemmas.List.Elements.{All-contains, All-contains_itself, All-weaker}
use Rattle.std.proofs.lemmas.List.Sorted.{IsPermutation-map, Contains-permutation, IsPermutation-sym}
use Rattle.std.proofs.lemmas.Map.Keys.{apart_from_distinct, IsDistinct-IsPermutation, IsStrictlyIncreasing-from_distinct}
use Rattle.walk_laws.specs.declared.entry.Entry.{Entry}
use Rattle.walk_laws.specs.Labelling.{label_row}
use Rattle.label_clean.specs.RawRows.{HasEachOnce}
use Rattle.label_clean.specs.Sorted.{IsSortedRow}
use Rattle.label_clean.proofs.Covering.{pos_of}

pub eqb_flips : (x y : ℕ) → eqb x y ≡ eqb y x
eqb_flips x y = elim (eqb_tells x y) [
  | inl same ↦ let t : eqb y x ≡ true = eq-eqb y x (sym same.1) in same.0 ∙ sym t
  | inr apart ↦ elim (eqb_tells y x) [
    | inl same ↦ absurd (apart.1 (sym same.1))
    | inr other ↦ apart.0 ∙ sym other.0
  ]
]

-- one position has one place
pub one_place : (row : List Entry) (i j : ℕ) (e f : Entry) → HasEachOnce row → i < j → j < length row → get_or row i e ≡ e → get_or row j f ≡ f → e.pos ≡ f.pos → ⊥
one_place row i j e f once before within here there same =
    let ks = map pos_of row in
    let first : get_or ks i 0 ≡ e.pos = get_or-map pos_of row i e 0 (omega arith) ∙ ap pos_of here in
    let second : get_or ks j 0 ≡ f.pos = get_or-map pos_of row j f 0 within ∙ ap pos_of there in
    let apart : eqb (get_or ks i 0) (get_or ks j 0) ≡ false = apart_from_distinct eqb ks i j 0 once before (omega (arith, length-map row pos_of)) in
    let level : eqb (get_or ks i 0) (get_or ks j 0) ≡ true = eq-eqb (get_or ks i 0) (get_or ks j 0) (first ∙ same ∙ sym second) in
    absurd cc

-- and so one entry
pub same_entry : (row : List Entry) (e f : Entry) → HasEachOnce row → Contains row e → Contains row f → e.pos ≡ f.pos → e ≡ f
same_entry row e f once (i, i_within, here) (j, j_within, there) same = elim (cases_eq i j) [
  | inl level ↦ sym here ∙ get_or_default row i e f i_within ∙ ap (λ k. get_or row k f) level ∙ there
  | inr differ ↦ elim (cases_lt i j) [
    | inl before ↦ absurd (one_place row i j e f once before j_within here there same)
    | inr after ↦ absurd (one_place row j i f e once (omega (arith, after, differ)) i_within there here (sym same))
  ]
]

positions_rise : (row : List Entry) → IsNonDecreasingBy pos_of row → IsNonDecreasing (map pos_of row)
positions_rise row up i j d le lt =
    let none : Entry = record { pos = 0; dist = 0 } in
    let within : j < length row = omega (arith, length-map row pos_of) in
    omega (arith, get_or-map pos_of row i none d (omega arith), get_or-map pos_of row j none d within, up i j none le within)

-- entries that differ in position rise once they are sorted
pub IsSortedRow-from_sort : (row sorted : List Entry) → HasEachOnce row → IsPermutation row sorted → IsNonDecreasingBy pos_of sorted → IsSortedRow row sorted
IsSortedRow-from_sort row sorted once moved up = record {
  rising = IsStrictlyIncreasing-from_distinct (map pos_of sorted) (positions_rise sorted up) (IsDistinct-IsPermutation eqb eqb_flips (map pos_of row) (map pos_of sorted) (IsPermutation-map pos_of row sorted moved) once);
  each = λ e. (λ h. Contains-permutation sorted row e (IsPermutation-sym row sorted moved) h, λ h. Contains-permutation row sorted e moved h);
}

-- a row of a table of empty rows
pub label_row-replicate : (n v : ℕ) → 1 ≤ v → v ≤ n → label_row (replicate n []) v ≡ []
label_row-replicate n v from_one up_to_n = get_or-replicate n (v - 1) [] [] (omega arith)

-- what holds of each entry holds of each of some of them
pub All-each : (P : Entry → Type 0) (entries row : List Entry) → ((e : Entry) → Contains row e → Contains entries e) → All P entries → All P row
All-each P entries row some all = All-weaker (Contains row) P (λ e here. All-contains P entries e all (some e here)) row (All-contains_itself row)

pub All-sorted : (P : Entry → Type 0) (entries row : List Entry) → IsSortedRow entries row → All P entries → All P row
All-sorted P entries row is = All-each P entries row (λ e. (is.each e).0)

pub length_empty : (rows : List (List Entry)) (n : ℕ) → rows ≡ replicate n [] → length rows ≡ n
length_empty rows n is = let none : List Entry = [] in ap length is ∙ length-replicate n none

-- a first entry has another position than those after it
pub first_apart : (e f : Entry) (es : List Entry) → HasEachOnce (e ∷ es) → Contains es f → e.pos ≢ f.pos
first_apart e f es once (k, within, is) same =
    let there : get_or (e ∷ es) (k + 1) f ≡ f = rw add-one is in
    one_place (e ∷ es) 0 (k + 1) e f once (omega arith) (omega (arith, within)) refl there same
