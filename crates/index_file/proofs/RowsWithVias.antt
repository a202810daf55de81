-- Vias beside rows that are read: one more via, and one more row.
use Rattle.std.proofs.Common.{◌≡◌, ◌≢◌, ℕ, ◌+◌, ◌-◌, ◌≤◌, ◌<◌, ◌^◌, Bool, true, false, eqb, leb, not, ◌&&◌, Option, Some, None, IfSome, is_some, List, [], ◌∷◌, ◌++◌, length, get_or, refl, sym, ap, subst, inl, inr, arith}
use Rattle.std.proofs.Math.ListN.{get_or-append}
use Rattle.std.proofs.Math.Seq.{get_or-append_seam}
use Rattle.std.proofs.lemmas.Bool.{eqb-true, eqb-false, leb-true, not-true, and_parts, cases_lt}
use Rattle.std.proofs.lemmas.List.{length-append}
use Rattle.std.proofs.lemmas.List.Elements.{All-push}
use Rattle.walk_laws.specs.declared.entry.Entry.{Entry}
use Rattle.walk_laws.specs.Labelling.{label_row}
use Rattle.entry_vias.specs.RowVias.{via_row, IsViaRow, HaveVias}
use Rattle.index_file.specs.Parts.{Part, ReadRows, next_node, no_vias, more_vias, is_last, is_next_via}
use Rattle.index_file.specs.Sound.{HaveViasOf, HaveTheirVias, HasPartVias, AreReading}

-- vias that a whole row may have beside it, where the index has such
abbrev pub HasRowVias : Option (List (List ℕ)) → ℕ → ℕ → List Entry → List ℕ → Type 0
HasRowVias None n v row vias = Unit {0}
HasRowVias (Some all) n v row vias = IsViaRow n v row vias

-- vias of a part of a row with one entry more, which may be the last one
pub record HasNextVias (done : ReadRows) (part : Part) (e : Entry) (vias : List ℕ) : Type 0 where
  pub whole : is_last part ≡ true → HasRowVias done.vias (length done.order) (next_node done) (part.entries ++ e ∷ []) vias
  pub more : is_last part ≡ false → HasPartVias done.vias (length done.order) (next_node done) (record { count = part.count; entries = part.entries ++ e ∷ []; vias = vias })

-- ---- one via more

module _ (n v y : ℕ) (part : Part) (may : is_next_via n v part y ≡ true) where
  none_last : is_last part ≡ true → y ≡ 0
  none_last last = let is : eqb y 0 ≡ true = rw last at may in eqb-true y 0 is

  some_before : is_last part ≡ false → (1 ≤ y) × (y ≤ n) × (y ≢ v)
  some_before more =
      let test : (leb 1 y && (leb y n && not (eqb y v))) ≡ true = rw more at may in
      let first = and_parts (leb 1 y) (leb y n && not (eqb y v)) test in
      let second = and_parts (leb y n) (not (eqb y v)) first.1 in
      (leb-true 1 y first.0, leb-true y n second.0, eqb-false y v (not-true (eqb y v) second.1))

  module _ (e : Entry) where
    longer : length part.vias ≡ length part.entries → length (part.vias ++ y ∷ []) ≡ length (part.entries ++ e ∷ [])
    longer same = omega (arith, same, length-append part.vias (y ∷ []), length-append part.entries (e ∷ []))

    whole_row : (all : Option (List (List ℕ))) → HasPartVias all n v part → is_last part ≡ true → HasRowVias all n v (part.entries ++ e ∷ []) (part.vias ++ y ∷ [])
    whole_row None have last = tt
    whole_row (Some all) have last = record { size = longer have.size; others = part.vias; ends = ap (λ t. part.vias ++ t ∷ []) (none_last last); node = have.node }

    more_of_row : (all : Option (List (List ℕ))) → HasPartVias all n v part → is_last part ≡ false → HasPartVias all n v (record { count = part.count; entries = part.entries ++ e ∷ []; vias = part.vias ++ y ∷ [] })
    more_of_row None have more = tt
    more_of_row (Some all) have more = record { size = longer have.size; node = All-push (λ t. (1 ≤ t) × (t ≤ n) × (t ≢ v)) part.vias y have.node (some_before more) }

pub HasNextVias-via : (done : ReadRows) (part : Part) (e : Entry) (y : ℕ) → AreReading done part → is_next_via (length done.order) (next_node done) part y ≡ true → HasNextVias done part e (part.vias ++ y ∷ [])
HasNextVias-via done part e y reading may = record {
  whole = whole_row (length done.order) (next_node done) y part may e done.vias reading.vias;
  more = more_of_row (length done.order) (next_node done) y part may e done.vias reading.vias;
}

-- where the index has none
module _ (n v : ℕ) (part : Part) (row : List Entry) (vias : List ℕ) where
  no_row_vias : (all : Option (List (List ℕ))) → is_some all ≡ false → HasRowVias all n v row vias
  no_row_vias None none = tt
  no_row_vias (Some all) none = absurd cc

  no_part_vias : (all : Option (List (List ℕ))) → is_some all ≡ false → HasPartVias all n v part
  no_part_vias None none = tt
  no_part_vias (Some all) none = absurd cc

pub HasNextVias-none : (done : ReadRows) (part : Part) (e : Entry) (vias : List ℕ) → is_some done.vias ≡ false → HasNextVias done part e vias
HasNextVias-none done part e vias none = record {
  whole = λ last. no_row_vias (length done.order) (next_node done) part (part.entries ++ e ∷ []) vias done.vias none;
  more = λ more. no_part_vias (length done.order) (next_node done) (record { count = part.count; entries = part.entries ++ e ∷ []; vias = vias }) (part.entries ++ e ∷ []) vias done.vias none;
}

-- of a row without entries
pub HasPartVias-none : (all : Option (List (List ℕ))) (n v count : ℕ) → HasPartVias all n v (record { count = count; entries = []; vias = [] })
HasPartVias-none None n v count = tt
HasPartVias-none (Some all) n v count = record { size = refl; node = λ k d within. absurd (omega arith) }

-- as many as entries
pub length-part_vias : (all : Option (List (List ℕ))) (n v : ℕ) (part : Part) → is_some all ≡ true → HasPartVias all n v part → length part.vias ≡ length part.entries
length-part_vias None n v part some have = absurd cc
length-part_vias (Some all) n v part some have = have.size

-- ---- one row more

module _ (n : ℕ) (rows : List (List Entry)) (row : List Entry) (vias : List ℕ) where
  pub HaveTheirVias-row : (all : Option (List (List ℕ))) → HaveTheirVias n rows all → HasRowVias all n (length rows + 1) row vias → HaveTheirVias n (rows ++ row ∷ []) (more_vias all vias)
  HaveTheirVias-row None have is = tt
  HaveTheirVias-row (Some all) have is = record { size = omega (arith, long, length-append all (vias ∷ []), have.size); row = each }
    where
      long : length (rows ++ row ∷ []) ≡ length rows + 1
      long = length-append rows (row ∷ [])

      each : (v : ℕ) → 1 ≤ v → v ≤ length (rows ++ row ∷ []) → IsViaRow n v (label_row (rows ++ row ∷ []) v) (via_row (all ++ vias ∷ []) v)
      each v from_one within = elim (cases_lt (v - 1) (length rows)) [
        | inl before ↦ rw (get_or-append rows (row ∷ []) [] (v - 1) before, get_or-append all (vias ∷ []) [] (v - 1) (omega (arith, have.size, before))) (have.row v from_one (omega arith))
        | inr last ↦
            let place : length rows ≡ v - 1 = omega (arith, long) in
            let other : length all ≡ v - 1 = omega (arith, long, have.size) in
            let node : length rows + 1 ≡ v = omega (arith, place, from_one) in
            let here : get_or (rows ++ row ∷ []) (v - 1) [] ≡ row = subst (λ i. get_or (rows ++ row ∷ []) i [] ≡ row) place (get_or-append_seam rows row [] []) in
            let beside : get_or (all ++ vias ∷ []) (v - 1) [] ≡ vias = subst (λ i. get_or (all ++ vias ∷ []) i [] ≡ vias) other (get_or-append_seam all vias [] []) in
            subst (λ r. IsViaRow n v r (via_row (all ++ vias ∷ []) v)) (sym here) (subst (λ ys. IsViaRow n v row ys) (sym beside) (subst (λ w. IsViaRow n w row vias) node is))
      ]

-- no row
pub HaveTheirVias-none : (n : ℕ) (traced : Bool) → HaveTheirVias n [] (no_vias traced)
HaveTheirVias-none n true = record { size = refl; row = λ v from_one within. absurd (omega arith) }
HaveTheirVias-none n false = tt

-- all rows
pub HaveVias-rows : (n : ℕ) (rows : List (List Entry)) (vias : List (List ℕ)) → HaveViasOf n rows vias → length rows ≡ n → HaveVias rows vias
HaveVias-rows n rows vias have whole = record {
  size = have.size;
  row = λ v from_one within. subst (λ k. IsViaRow k v (label_row rows v) (via_row vias v)) (sym whole) (have.row v from_one within);
}

-- how many lists
pub length-vias : (n : ℕ) (rows : List (List Entry)) (vias : List (List ℕ)) → HaveTheirVias n rows (Some vias) → length vias ≡ length rows
length-vias n rows vias have = have.size

-- few enough for one more
few_lists : (n : ℕ) (rows : List (List Entry)) (all : Option (List (List ℕ))) → HaveTheirVias n rows all → length rows + 1 < 2 ^ 32 → IfSome all (λ vias. length vias + 1 < 2 ^ 32)
few_lists n rows None have few = tt
few_lists n rows (Some vias) have few = omega (arith, have.size, few)

pub few_vias : (done : ReadRows) (part : Part) → AreReading done part → IfSome done.vias (λ vias. length vias + 1 < 2 ^ 32)
few_vias done part reading = few_lists (length done.order) done.rows done.vias reading.rows.vias (omega (arith, reading.rows.small, reading.more))
