-- A field that is accepted leaves the fields sound, and its bytes are after theirs.
use Rattle.std.proofs.Common.{◌≡◌, ◌⊎◌, ℕ, zero, suc, ◌+◌, ◌-◌, ◌%◌, ◌^◌, ◌<◌, ◌≤◌, Bool, true, false, cond, eqb, leb, ltb, is_some, List, [], ◌∷◌, ◌++◌, length, take, get_or, Ok, Err, refl, sym, ap, subst, ◌∙◌, inl, inr, append_assoc, arith}
use Rattle.std.specs.Prelude.{nat_eq, ◌&&◌, flat_map}
use Rattle.std.specs.List.{IsDistinct, list_any}
use Rattle.std.specs.Cmp.{nat_eq_equiv}
use Rattle.std.proofs.Math.ListN.{get_or-append}
use Rattle.std.proofs.Math.Seq.{get_or-append_seam}
use Rattle.std.proofs.lemmas.Bool.{eq-eqb, ne_eqb, eqb-true, leb-true, ltb-true, not-true, and_parts, cases_lt}
use Rattle.std.proofs.lemmas.Bool.Decides.{eqb_tells}
use Rattle.std.proofs.lemmas.List.{length-append, append-nil}
use Rattle.std.proofs.lemmas.List.Elements.{All-push, All-weaker}
use Rattle.std.proofs.lemmas.Map.Keys.{IsDistinct-push}
use Rattle.byteorder.specs.Endian.{big_bytes}
use Rattle.walk_laws.specs.declared.entry.Entry.{Entry}
use Rattle.walk_laws.specs.Labelling.{label_row}
use Rattle.hub_index.specs.WellFormed.{IsWellFormedRow}
use Rattle.index_file.specs.declared.fault.IndexFault.{IndexFault}
use Rattle.index_file.specs.declared.fault.IndexFault.TheVariants as fault
use Rattle.index_file.specs.declared.next.Next.{Next}
use Rattle.index_file.specs.declared.next.Next.TheVariants.{Letter, Version, Size, Node, Count, Position, Distance, Via, End}
use Rattle.index_file.specs.Layout.{letters, word, entry_bytes, entries_bytes, head_bytes, rows_bytes}
use Rattle.index_file.specs.Parts.{Names, ReadRows, Part, with_node, is_new_node, no_vias, no_rows, with_row, next_node, next_own, no_entries, with_entry, with_via, is_last, least_after, is_next_position, is_next_distance, is_next_via}
use Rattle.index_file.specs.Judging.{width, after_row, after_distance, after_entry, after_node, after_field}
use Rattle.index_file.specs.Sound.{AreNames, AreRows, IsPart, AreReading, IsSoundNext, version_for, done_bytes, part_bytes, bytes_before}
use Rattle.index_file.proofs.OneMore.{flat_map_push, entries-push, traced_entries-push, entries-none, stored_bytes-row, version-none, rows-none}
use Rattle.index_file.proofs.RowsWithVias.{HasRowVias, HasNextVias, HasNextVias-via, HasNextVias-none, HasPartVias-none, length-part_vias, HaveTheirVias-row, HaveTheirVias-none}
use Rattle.index_file.proofs.Rising.{least_after-push, rising_push, IsWellFormedRow-last}

-- the fields are sound, and these are their bytes
pub record StandsFor (at : ℕ) (next : Next) (bytes : List ℕ) : Type 0 where
  pub sound : IsSoundNext at next
  pub bytes_are : bytes_before at next ≡ bytes

-- ---- lists

regroup_2 : (a b c : List ℕ) → a ++ (b ++ c) ≡ (a ++ b) ++ c
regroup_2 a b c = sym (append_assoc a b c)

regroup_3 : (a b c d : List ℕ) → a ++ (b ++ (c ++ d)) ≡ (a ++ (b ++ c)) ++ d
regroup_3 a b c d = simp append_assoc

regroup_4 : (a b c d e : List ℕ) → a ++ (b ++ (c ++ (d ++ e))) ≡ (a ++ (b ++ (c ++ d))) ++ e
regroup_4 a b c d e = simp append_assoc

-- a test that was passed
guard_ok : {A : Type 0} (b : Bool) (x y : A) (e : IndexFault) → cond b (Ok x) (Err e) ≡ Ok y → (b ≡ true) × (x ≡ y)
guard_ok true x y e is = (refl, cc)
guard_ok false x y e is = absurd cc

guard_two : {A : Type 0} (b c : Bool) (x y z : A) (e : IndexFault) → cond b (Ok x) (cond c (Ok y) (Err e)) ≡ Ok z → ((b ≡ true) × (x ≡ z)) ⊎ ((c ≡ true) × (y ≡ z))
guard_two true c x y z e is = inl (refl, cc)
guard_two false c x y z e is = inr (guard_ok c y z e is)

either : (b : Bool) → (b ≡ true) ⊎ (b ≡ false)
either true = inl refl
either false = inr refl

guard_no : {A : Type 0} (b : Bool) (x y : A) (e : IndexFault) → cond b (Err e) (Ok x) ≡ Ok y → (b ≡ false) × (x ≡ y)
guard_no true x y e is = absurd cc
guard_no false x y e is = (refl, cc)

-- ---- rows

StandsFor-after_row : (at : ℕ) (done : ReadRows) → AreRows done → StandsFor at (after_row done) (done_bytes done)
StandsFor-after_row at done rows =
    elim (eqb_tells (length done.rows) (length done.order)) [
      | inl whole ↦ rw whole.0 (record { sound = (rows, whole.1); bytes_are = refl })
      | inr more ↦ rw more.0 (record { sound = (rows, omega (arith, rows.size, more.1)); bytes_are = refl })
    ]

AreRows-row : (done : ReadRows) (row : List Entry) (vias : List ℕ) → AreRows done → length done.rows < length done.order → IsWellFormedRow done.order (next_node done) row → HasRowVias done.vias (length done.order) (next_node done) row vias → AreRows (with_row done row vias)
AreRows-row done row vias rows more is beside = record {
  ranking = rows.ranking;
  small = rows.small;
  size = omega (arith, long);
  row = each;
  vias = HaveTheirVias-row (length done.order) done.rows row vias done.vias rows.vias beside;
}
  where
    long : length (done.rows ++ row ∷ []) ≡ length done.rows + 1
    long = length-append done.rows (row ∷ [])

    each : (v : ℕ) → 1 ≤ v → v ≤ length (done.rows ++ row ∷ []) → IsWellFormedRow done.order v (label_row (done.rows ++ row ∷ []) v)
    each v from_one within = elim (cases_lt (v - 1) (length done.rows)) [
      | inl before ↦ rw (get_or-append done.rows (row ∷ []) [] (v - 1) before) (rows.row v from_one (omega arith))
      | inr last ↦
          let place : length done.rows ≡ v - 1 = omega (arith, long) in
          let node : next_node done ≡ v = omega arith in
          let here : get_or (done.rows ++ row ∷ []) (v - 1) [] ≡ row = subst (λ i. get_or (done.rows ++ row ∷ []) i [] ≡ row) place (get_or-append_seam done.rows row [] []) in
          subst (IsWellFormedRow done.order v) (sym here) (subst (λ w. IsWellFormedRow done.order w row) node is)
    ]

-- ---- entries

own_last : (own pos : ℕ) (part : Part) → is_next_position own part pos ≡ true → is_last part ≡ true → pos ≡ own
own_last own pos part may last =
    let parts = and_parts (leb (least_after part.entries) pos) (cond (is_last part) (eqb pos own) (ltb pos own)) may in
    let own_is : eqb pos own ≡ true = rw last at parts.1 in
    eqb-true pos own own_is

none_last : (part : Part) (dist : ℕ) → is_next_distance part dist ≡ true → is_last part ≡ true → dist ≡ 0
none_last part dist may last = let is : eqb dist 0 ≡ true = rw last at may in eqb-true dist 0 is

below_own : (own pos : ℕ) (part : Part) → is_next_position own part pos ≡ true → is_last part ≡ false → pos < own
below_own own pos part may more =
    let parts = and_parts (leb (least_after part.entries) pos) (cond (is_last part) (eqb pos own) (ltb pos own)) may in
    let below : ltb pos own ≡ true = rw more at parts.1 in
    ltb-true pos own below

pub above_all : (own pos : ℕ) (part : Part) → is_next_position own part pos ≡ true → least_after part.entries ≤ pos
above_all own pos part may = leb-true _ _ (and_parts _ _ may).0

far_off : (part : Part) (dist : ℕ) → is_next_distance part dist ≡ true → is_last part ≡ false → (1 ≤ dist) × (dist < 2 ^ 64)
far_off part dist may more =
    let test : (leb 1 dist && ltb dist (2 ^ 64)) ≡ true = rw more at may in
    let both = and_parts (leb 1 dist) (ltb dist (2 ^ 64)) test in
    (leb-true 1 dist both.0, ltb-true dist (2 ^ 64) both.1)

-- an entry that isn't the last one leaves a part of a row
pub IsPart-more : (own pos dist : ℕ) (part : Part) (vias : List ℕ) → IsPart own part → is_next_position own part pos ≡ true → is_next_distance part dist ≡ true → is_last part ≡ false → IsPart own (record { count = part.count; entries = part.entries ++ record { pos = pos; dist = dist } ∷ []; vias = vias })
IsPart-more own pos dist part vias is position distance more =
    let e : Entry = record { pos = pos; dist = dist } in
    let above = above_all own pos part position in
    record {
      rising = rising_push part.entries e is.rising above;
      below = omega (arith, least_after-push part.entries e above, below_own own pos part position more);
      far = All-push (λ x. (1 ≤ x.dist) × (x.dist < 2 ^ 64)) part.entries e is.far (far_off part dist distance more);
      more = omega (arith, length-append part.entries (e ∷ []), is.more, not_last);
    }
  where
    not_last : (length part.entries + 1 ≡ part.count) → ⊥
    not_last same = let yes : is_last part ≡ true = eq-eqb _ _ same in absurd cc

module _ (at : ℕ) (done : ReadRows) (part : Part) (pos dist : ℕ) (reading : AreReading done part) (position : is_next_position (next_own done) part pos ≡ true) (distance : is_next_distance part dist ≡ true) where
  module _ (vias : List ℕ) (beside : HasNextVias done part (record { pos = pos; dist = dist }) vias) where
    long : length (part.entries ++ record { pos = pos; dist = dist } ∷ []) ≡ length part.entries + 1
    long = length-append part.entries (record { pos = pos; dist = dist } ∷ [])

    row_is_done : is_last part ≡ true → length part.entries + 1 ≡ part.count → StandsFor at (after_entry done (record { count = part.count; entries = part.entries ++ record { pos = pos; dist = dist } ∷ []; vias = vias })) (done_bytes done ++ (word part.count ++ entries_bytes done.vias (part.entries ++ record { pos = pos; dist = dist } ∷ []) vias))
    row_is_done last whole =
        let count : length (part.entries ++ record { pos = pos; dist = dist } ∷ []) ≡ part.count = omega (arith, long) in
        let is = IsWellFormedRow-last done.order (next_node done) pos dist part reading.entries (own_last (next_own done) pos part position last) (none_last part dist distance last) in
        let all = StandsFor-after_row at (with_row done (part.entries ++ record { pos = pos; dist = dist } ∷ []) vias) (AreRows-row done (part.entries ++ record { pos = pos; dist = dist } ∷ []) vias reading.rows reading.more is (beside.whole last)) in
        let bytes = all.bytes_are ∙ stored_bytes-row (length done.order) done.rows (part.entries ++ record { pos = pos; dist = dist } ∷ []) vias done.order done.vias reading.rows.vias ∙ ap (λ k. done_bytes done ++ (word k ++ entries_bytes done.vias (part.entries ++ record { pos = pos; dist = dist } ∷ []) vias)) count in
        rw (eq-eqb (length (part.entries ++ record { pos = pos; dist = dist } ∷ [])) part.count count) (record { sound = all.sound; bytes_are = bytes })

    StandsFor-after_entry : StandsFor at (after_entry done (record { count = part.count; entries = part.entries ++ record { pos = pos; dist = dist } ∷ []; vias = vias })) (done_bytes done ++ (word part.count ++ entries_bytes done.vias (part.entries ++ record { pos = pos; dist = dist } ∷ []) vias))
    StandsFor-after_entry =
        elim (eqb_tells (length part.entries + 1) part.count) [
          | inl last ↦ row_is_done last.0 last.1
          | inr more ↦
              rw (ne_eqb (length (part.entries ++ record { pos = pos; dist = dist } ∷ [])) part.count (λ same. more.1 (omega (arith, long))))
              (record { sound = record { rows = reading.rows; more = reading.more; entries = IsPart-more (next_own done) pos dist part vias reading.entries position distance more.0; vias = beside.more more.0 }; bytes_are = refl })
        ]

  -- after the distance there is a via, or the next entry
  StandsFor-after_distance : StandsFor at (after_distance done part (record { pos = pos; dist = dist })) (done_bytes done ++ (word part.count ++ (part_bytes done part ++ entry_bytes (record { pos = pos; dist = dist }))))
  StandsFor-after_distance =
      elim (either (is_some done.vias)) [
        | inl some ↦ rw some (record { sound = (reading, position, distance, some); bytes_are = refl })
        | inr none ↦
            let stands = StandsFor-after_entry part.vias (HasNextVias-none done part (record { pos = pos; dist = dist }) part.vias none) in
            rw none (record { sound = stands.sound; bytes_are = stands.bytes_are ∙ ap (λ t. done_bytes done ++ (word part.count ++ t)) (entries-push done.vias part.entries part.vias (record { pos = pos; dist = dist }) none) })
      ]

  -- and after the via there is the next entry
  StandsFor-after_via : (y : ℕ) → is_some done.vias ≡ true → is_next_via (length done.order) (next_node done) part y ≡ true → StandsFor at (after_entry done (with_via (with_entry part (record { pos = pos; dist = dist })) y)) (done_bytes done ++ (word part.count ++ (part_bytes done part ++ (entry_bytes (record { pos = pos; dist = dist }) ++ word y))))
  StandsFor-after_via y some may =
      let stands = StandsFor-after_entry (part.vias ++ y ∷ []) (HasNextVias-via done part (record { pos = pos; dist = dist }) y reading may) in
      let same = length-part_vias done.vias (length done.order) (next_node done) part some reading.vias in
      record { sound = stands.sound; bytes_are = stands.bytes_are ∙ ap (λ t. done_bytes done ++ (word part.count ++ t)) (traced_entries-push done.vias part.entries part.vias (record { pos = pos; dist = dist }) y some same) }

-- ---- nodes

AreRows-none : (names : Names) → AreNames names → length names.order ≡ names.n → AreRows (no_rows names)
AreRows-none names are whole = record {
  ranking = record { node = All-weaker (λ v. (1 ≤ v) × (v ≤ names.n)) (λ v. (1 ≤ v) × (v ≤ length names.order)) (λ v in_n. (in_n.0, omega (arith, in_n.1))) names.order are.node; once = are.once };
  small = omega (arith, are.small);
  size = omega arith;
  row = λ v from_one within. absurd (omega arith);
  vias = HaveTheirVias-none (length names.order) names.traced;
}

pub StandsFor-after_node : (at : ℕ) (names : Names) → AreNames names → StandsFor at (after_node names) (head_bytes (version_for names.traced) names.n ++ flat_map word names.order)
StandsFor-after_node at names are =
    elim (eqb_tells (length names.order) names.n) [
      | inl whole ↦
          let all = StandsFor-after_row at (no_rows names) (AreRows-none names are whole.1) in
          let version = ap (λ k. head_bytes k (length names.order) ++ (flat_map word names.order ++ rows_bytes [] (no_vias names.traced))) (version-none names.traced) in
          let none = ap (λ t. head_bytes (version_for names.traced) (length names.order) ++ (flat_map word names.order ++ t)) (rows-none names.traced) in
          let size = ap (λ k. head_bytes (version_for names.traced) k ++ (flat_map word names.order ++ [])) whole.1 in
          rw whole.0 (record { sound = all.sound; bytes_are = all.bytes_are ∙ version ∙ none ∙ size ∙ ap (λ t. head_bytes (version_for names.traced) names.n ++ t) (append-nil (flat_map word names.order)) })
      | inr more ↦ rw more.0 (record { sound = (are, omega (arith, are.size, more.1)); bytes_are = refl })
    ]

-- a new node more
pub AreNames-more : (names : Names) (x : ℕ) → AreNames names → length names.order < names.n → is_new_node names x ≡ true → AreNames (with_node names x)
AreNames-more names x are more new =
    let first = and_parts _ _ new in
    let second = and_parts _ _ first.1 in
    let node = All-push (λ v. (1 ≤ v) × (v ≤ names.n)) names.order x are.node (leb-true 1 x first.0, leb-true x names.n second.0) in
    record {
      small = are.small;
      node = node;
      once = IsDistinct-push nat_eq_equiv names.order x are.once (not-true (list_any (nat_eq x) names.order) second.1);
      size = omega (arith, length-append names.order (x ∷ []));
    }

-- ---- letters

module _ (new : Next) where
  letter_is : (at x c : ℕ) (next : Next) → cond (eqb x c) (Ok next) (Err (fault.Magic at)) ≡ Ok new → StandsFor (at + 1) next (take at letters ++ c % 256 ∷ []) → StandsFor (at + 1) new (take at letters ++ big_bytes 1 x)
  letter_is at x c next is stands =
      let passed = guard_ok (eqb x c) next new (fault.Magic at) is in
      rw (eqb-true x c passed.0, ← passed.1) stands

-- ---- any field

pub AreNames-no_node : (n : ℕ) (traced : Bool) → n ≤ 2 ^ 30 → AreNames (record { n = n; order = []; traced = traced })
unfolding IsDistinct
AreNames-no_node n traced small = record { small = small; node = λ k d within. absurd (omega arith); once = tt; size = omega arith }

IsPart-none : (own count : ℕ) → eqb count 0 ≡ false → IsPart own (no_entries count)
IsPart-none own count some = record {
  rising = λ k within. absurd (omega arith);
  below = omega arith;
  far = λ k d within. absurd (omega arith);
  more = omega (arith, not_zero);
}
  where
    not_zero : count ≡ 0 → ⊥
    not_zero none = let yes : eqb count 0 ≡ true = eq-eqb count 0 none in absurd cc

StandsFor-same : (at : ℕ) (next : Next) (a b : List ℕ) → StandsFor at next a → a ≡ b → StandsFor at next b
StandsFor-same at next a b stands same = record { sound = stands.sound; bytes_are = stands.bytes_are ∙ same }

pub StandsFor-after_field : (at : ℕ) (next : Next) (x : ℕ) (new : Next) → IsSoundNext at next → after_field at next x ≡ Ok new → StandsFor (at + width next) new (bytes_before at next ++ big_bytes (width next) x)
StandsFor-after_field zero Letter x new sound is = letter_is new 0 x 67 Letter is (record { sound = omega arith; bytes_are = refl })
StandsFor-after_field (suc zero) Letter x new sound is = letter_is new 1 x 72 Letter is (record { sound = omega arith; bytes_are = refl })
StandsFor-after_field (suc (suc zero)) Letter x new sound is = letter_is new 2 x 76 Letter is (record { sound = omega arith; bytes_are = refl })
StandsFor-after_field (suc (suc (suc zero))) Letter x new sound is = letter_is new 3 x 65 Letter is (record { sound = omega arith; bytes_are = refl })
StandsFor-after_field (suc (suc (suc (suc zero)))) Letter x new sound is = letter_is new 4 x 66 Letter is (record { sound = omega arith; bytes_are = refl })
StandsFor-after_field (suc (suc (suc (suc (suc zero))))) Letter x new sound is = letter_is new 5 x 69 Letter is (record { sound = omega arith; bytes_are = refl })
StandsFor-after_field (suc (suc (suc (suc (suc (suc zero)))))) Letter x new sound is = letter_is new 6 x 76 Version is (record { sound = tt; bytes_are = refl })
StandsFor-after_field (suc (suc (suc (suc (suc (suc (suc at))))))) Letter x new sound is = absurd (omega arith)
StandsFor-after_field at Version x new sound is =
    elim (guard_two (eqb x 1) (eqb x 2) (Size false) (Size true) new (fault.Version x) is) [
      | inl plain ↦ rw (eqb-true x 1 plain.0, ← plain.1) (record { sound = tt; bytes_are = refl })
      | inr traced ↦ rw (eqb-true x 2 traced.0, ← traced.1) (record { sound = tt; bytes_are = refl })
    ]
StandsFor-after_field at (Size traced) x new sound is =
    let passed = guard_ok (leb x (2 ^ 30)) (after_node (record { n = x; order = []; traced = traced })) new (fault.Size x) is in
    subst (λ next. StandsFor (at + 4) next (head_bytes (version_for traced) x ++ [])) passed.1 (StandsFor-after_node (at + 4) (record { n = x; order = []; traced = traced }) (AreNames-no_node x traced (leb-true x (2 ^ 30) passed.0)))
StandsFor-after_field at (Node names) x new sound is =
    let passed = guard_ok (is_new_node names x) (after_node (with_node names x)) new (fault.Order (length names.order)) is in
    let stands = StandsFor-after_node (at + 4) (with_node names x) (AreNames-more names x sound.0 sound.1 passed.0) in
    subst (λ next. StandsFor (at + 4) next (bytes_before at (Node names) ++ word x)) passed.1
    (StandsFor-same (at + 4) (after_node (with_node names x)) _ _ stands (ap (λ t. head_bytes (version_for names.traced) names.n ++ t) (flat_map_push word names.order x) ∙ regroup_2 (head_bytes (version_for names.traced) names.n) (flat_map word names.order) (word x)))
StandsFor-after_field at (Count done) x new sound is =
    let passed = guard_no (eqb x 0) (Position done (no_entries x)) new (fault.Row (next_node done) 0) is in
    subst (λ next. StandsFor (at + 4) next (done_bytes done ++ word x)) passed.1
    (record {
      sound = record { rows = sound.0; more = sound.1; entries = IsPart-none (next_own done) x passed.0; vias = HasPartVias-none done.vias (length done.order) (next_node done) x };
      bytes_are = ap (λ t. done_bytes done ++ (word x ++ t)) (entries-none done.vias) ∙ ap (λ t. done_bytes done ++ t) (append-nil (word x));
    })
StandsFor-after_field at (Position done part) x new sound is =
    let passed = guard_ok (is_next_position (next_own done) part x) (Distance done part x) new (fault.Row (next_node done) (length part.entries)) is in
    subst (λ next. StandsFor (at + 4) next (bytes_before at (Position done part) ++ word x)) passed.1
    (record { sound = (sound, passed.0); bytes_are = regroup_3 (done_bytes done) (word part.count) (part_bytes done part) (word x) })
StandsFor-after_field at (Distance done part pos) x new sound is =
    let passed = guard_ok (is_next_distance part x) (after_distance done part (record { pos = pos; dist = x })) new (fault.Distance (next_node done) (length part.entries)) is in
    let stands = StandsFor-after_distance (at + 8) done part pos x sound.0 sound.1 passed.0 in
    subst (λ next. StandsFor (at + 8) next (bytes_before at (Distance done part pos) ++ big_bytes 8 x)) passed.1
    (StandsFor-same (at + 8) (after_distance done part (record { pos = pos; dist = x })) _ _ stands (regroup_4 (done_bytes done) (word part.count) (part_bytes done part) (word pos) (big_bytes 8 x)))
StandsFor-after_field at (Via done part e) x new sound is =
    let passed = guard_ok (is_next_via (length done.order) (next_node done) part x) (after_entry done (with_via (with_entry part e) x)) new (fault.Via (next_node done) (length part.entries)) is in
    let stands = StandsFor-after_via (at + 4) done part e.pos e.dist sound.0 sound.1 sound.2 x sound.3 passed.0 in
    subst (λ next. StandsFor (at + 4) next (bytes_before at (Via done part e) ++ word x)) passed.1
    (StandsFor-same (at + 4) (after_entry done (with_via (with_entry part e) x)) _ _ stands (regroup_4 (done_bytes done) (word part.count) (part_bytes done part) (entry_bytes e) (word x)))
StandsFor-after_field at (End done) x new sound is = absurd cc
