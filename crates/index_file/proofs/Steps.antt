-- The steps of the reading: each leads as the bytes that it takes do.
use Rattle.std.proofs.Common.{◌≡◌, ◌⊎◌, ℕ, zero, suc, ◌+◌, ◌<◌, ◌≤◌, Bool, true, false, if◌then◌else◌, is_some, List, [], ◌∷◌, ◌++◌, length, take, drop, get_or, Result, Ok, Err, refl, sym, ap, subst, ◌∙◌, inl, inr, append_assoc, arith}
use Rattle.std.proofs.Math.ListN.{get_or-append}
use Rattle.std.proofs.lemmas.Bool.{eq-eqb, ne_eqb, eqb-true, eqb-false, cases_lt}
use Rattle.std.proofs.lemmas.List.{length-append, append-nil, get_or_past, get_or-append-add, take-append-drop, length-take, length-drop}
use Rattle.byteorder.specs.Endian.{big_number}
use Rattle.byteorder.specs.Numbers.{big_from-take}
use Rattle.walk_laws.specs.declared.entry.Entry.{Entry}
use Rattle.index_file.specs.declared.fault.IndexFault.{IndexFault}
use Rattle.index_file.specs.declared.fault.IndexFault.TheVariants as fault
use Rattle.index_file.specs.declared.next.Next.{Next}
use Rattle.index_file.specs.declared.next.Next.TheVariants.{Node, Count, Position, Distance, Via}
use Rattle.index_file.specs.Parts.{Names, ReadRows, Part, with_node, with_row, is_new_node, next_node, next_own, no_entries, with_entry, with_via, is_last, is_next_position, is_next_distance, is_next_via}
use Rattle.index_file.specs.Judging.{Reached, ◌>>=◌, width, after_field, after_node, after_distance, after_entry, fed}
use Rattle.index_file.specs.Cutting.{fed-append, fed-err}
use Rattle.index_file.specs.Gives.{Takes, Refuses, at_node, at_count, at_position, at_via, entry_width}
use Rattle.index_file.specs.Sound.{IsSound}
use Rattle.index_file.proofs.Fields.{IsBytes, All-from_bytes, bytes_from_All, no_bytes, fed-field, fed-rest_of_field}
use Rattle.index_file.proofs.SoundBytes.{width-some, Leads-bytes}

-- ---- bytes

-- what bytes lead to is sound
pub IsSound-fed : (p q : Reached) (bytes : List ℕ) → IsSound p → IsBytes bytes → fed (Ok p) bytes ≡ Ok q → IsSound q
IsSound-fed p q bytes sound fits leads = (Leads-bytes bytes p q sound (bytes_from_All p.held sound.fits) (All-from_bytes bytes fits) leads).sound

-- ---- parts of a piece

pub Takes-none : (p : Reached) (bytes : List ℕ) → Takes p bytes p bytes
Takes-none p bytes = record { taken = []; parts = refl; leads = refl }

pub Takes-more : (old cur new : Reached) (bytes rest field left : List ℕ) → Takes old bytes cur rest → rest ≡ field ++ left → fed (Ok cur) field ≡ Ok new → Takes old bytes new left
Takes-more old cur new bytes rest field left takes parts leads = record {
  taken = takes.taken ++ field;
  parts = takes.parts ∙ ap (λ t. takes.taken ++ t) parts ∙ sym (append_assoc takes.taken field left);
  leads = fed-append (Ok old) takes.taken field ∙ ap (λ r. fed r field) takes.leads ∙ leads;
}

pub Takes-then : (old cur new : Reached) (bytes rest left : List ℕ) → Takes old bytes cur rest → Takes cur rest new left → Takes old bytes new left
Takes-then old cur new bytes rest left first second = Takes-more old cur new bytes rest second.taken left first second.parts second.leads

pub Takes-le : (old : Reached) (bytes : List ℕ) (new : Reached) (left : List ℕ) → Takes old bytes new left → length left ≤ length bytes
Takes-le old bytes new left takes = omega (arith, ap length takes.parts, length-append takes.taken left)

-- a fault in the first part
pub fed-part : (p : Reached) (rest field left : List ℕ) (e : IndexFault) → rest ≡ field ++ left → fed (Ok p) field ≡ Err e → fed (Ok p) rest ≡ Err e
fed-part p rest field left e parts faults = ap (fed (Ok p)) parts ∙ fed-append (Ok p) field left ∙ ap (λ r. fed r left) faults ∙ fed-err e left

pub Refuses-part : (p : Reached) (rest field left : List ℕ) (e : IndexFault) → rest ≡ field ++ left → Refuses p field e → Refuses p rest e
Refuses-part p rest field left e parts refuses = elim refuses [ inl none ↦ inl none | inr faults ↦ inr (fed-part p rest field left e parts faults) ]

-- where no byte is held
pub Refuses-none : (next : Next) (held : List ℕ) (at : ℕ) (field : List ℕ) (e : IndexFault) → held ≡ [] → Refuses (record { next = next; held = []; at = at }) field e → Refuses (record { next = next; held = held; at = at }) field e
Refuses-none next held at field e none refuses = subst (λ h. Refuses (record { next = next; held = h; at = at }) field e) (sym none) refuses

-- a fault after what was taken
pub Refuses-then : (old cur : Reached) (bytes rest : List ℕ) (e : IndexFault) → Takes old bytes cur rest → Refuses cur rest e → Refuses old bytes e
Refuses-then old cur bytes rest e takes refuses = elim refuses [
  | inl none ↦ inl none
  | inr faults ↦ inr (ap (fed (Ok old)) takes.parts ∙ fed-append (Ok old) takes.taken rest ∙ ap (λ r. fed r rest) takes.leads ∙ faults)
]

-- ---- one field

module _ (next : Next) (at : ℕ) where
  pub fed-accepted : (field : List ℕ) (new : Next) → length field ≡ width next → after_field at next (big_number (length field) field) ≡ Ok new → fed (Ok (record { next = next; held = []; at = at })) field ≡ Ok (record { next = new; held = []; at = at + length field })
  fed-accepted field new long is = fed-field next at field long ∙ ap (λ r. r >>= λ n. Ok (record { next = n; held = []; at = at + length field })) is

  pub fed-refused : (field : List ℕ) (e : IndexFault) → length field ≡ width next → after_field at next (big_number (length field) field) ≡ Err e → fed (Ok (record { next = next; held = []; at = at })) field ≡ Err e
  fed-refused field e long is = fed-field next at field long ∙ ap (λ r. r >>= λ n. Ok (record { next = n; held = []; at = at + length field })) is

  pub fed-last_accepted : (held : List ℕ) (b : ℕ) (new : Next) → length held + 1 ≡ width next → after_field at next (big_number (length (held ++ b ∷ [])) (held ++ b ∷ [])) ≡ Ok new → fed (Ok (record { next = next; held = held; at = at })) (b ∷ []) ≡ Ok (record { next = new; held = []; at = at + length (held ++ b ∷ []) })
  fed-last_accepted held b new long is = fed-rest_of_field next at held b long ∙ ap (λ r. r >>= λ n. Ok (record { next = n; held = []; at = at + length (held ++ b ∷ []) })) is

  pub fed-last_refused : (held : List ℕ) (b : ℕ) (e : IndexFault) → length held + 1 ≡ width next → after_field at next (big_number (length (held ++ b ∷ [])) (held ++ b ∷ [])) ≡ Err e → fed (Ok (record { next = next; held = held; at = at })) (b ∷ []) ≡ Err e
  fed-last_refused held b e long is = fed-rest_of_field next at held b long ∙ ap (λ r. r >>= λ n. Ok (record { next = n; held = []; at = at + length (held ++ b ∷ []) })) is

-- ---- nodes of the order

-- a run of nodes or of entries that has come so far
pub record Runs (old : Reached) (bytes : List ℕ) (new : Reached) (rest : List ℕ) : Type 0 where
  pub sound : IsSound new
  pub takes : Takes old bytes new rest

IsBytes-after : (a b : List ℕ) → IsBytes (a ++ b) → IsBytes b
IsBytes-after a b fits i = omega (arith, fits (length a + i), get_or-append-add a b i 0)

IsBytes-prefix : (a b : List ℕ) → IsBytes (a ++ b) → IsBytes a
IsBytes-prefix a b fits i = elim (cases_lt i (length a)) [
  | inl inside ↦ omega (arith, fits i, get_or-append a b 0 i inside)
  | inr past ↦ omega (arith, get_or_past a i 0 past)
]

IsBytes-one : (b : ℕ) → b < 256 → IsBytes (b ∷ [])
IsBytes-one b small zero = small
IsBytes-one b small (suc i) = omega (arith, get_or_past (b ∷ []) (suc i) 0 (omega arith))

pub Runs-none : (p : Reached) (bytes : List ℕ) → IsSound p → Runs p bytes p bytes
Runs-none p bytes sound = record { sound = sound; takes = Takes-none p bytes }

pub Runs-more : (old cur new : Reached) (bytes rest field left : List ℕ) → Runs old bytes cur rest → IsBytes bytes → rest ≡ field ++ left → fed (Ok cur) field ≡ Ok new → Runs old bytes new left
Runs-more old cur new bytes rest field left runs fits parts leads =
    let of_rest : IsBytes rest = IsBytes-after runs.takes.taken rest (subst IsBytes runs.takes.parts fits) in
    let of_field : IsBytes field = IsBytes-prefix field left (subst IsBytes parts of_rest) in
    record {
      sound = IsSound-fed cur new field runs.sound of_field leads;
      takes = Takes-more old cur new bytes rest field left runs.takes parts leads;
    }

pub Runs-then : (old cur new : Reached) (bytes rest left : List ℕ) → Runs old bytes cur rest → IsSound new → Takes cur rest new left → Runs old bytes new left
Runs-then old cur new bytes rest left runs sound takes = record { sound = sound; takes = Takes-then old cur new bytes rest left runs.takes takes }

pub fed-node : (names : Names) (at v : ℕ) (field : List ℕ) → length field ≡ 4 → v ≡ big_number 4 field → is_new_node names v ≡ true → length names.order + 1 < names.n → fed (Ok (at_node names at)) field ≡ Ok (at_node (with_node names v) (at + 4))
fed-node names at v field long is new more =
    let value : big_number (length field) field ≡ v = ap (λ k. big_number k field) long ∙ sym is in
    let open_still : after_node (with_node names v) ≡ Node (with_node names v) = rw (ne_eqb (length (names.order ++ v ∷ [])) names.n (λ same. omega (arith, length-append names.order (v ∷ [])))) refl in
    let judged : after_field at (Node names) v ≡ Ok (Node (with_node names v)) = rw new (ap (λ n. Ok n) open_still) in
    fed-accepted (Node names) at field (Node (with_node names v)) long (ap (after_field at (Node names)) value ∙ judged)
    ∙ ap (λ k. Ok (record { next = Node (with_node names v); held = []; at = at + k })) long

pub fed-no_node : (names : Names) (at v : ℕ) (field : List ℕ) → length field ≡ 4 → v ≡ big_number 4 field → is_new_node names v ≡ false → fed (Ok (at_node names at)) field ≡ Err (fault.Order (length names.order))
fed-no_node names at v field long is old =
    let value : big_number (length field) field ≡ v = ap (λ k. big_number k field) long ∙ sym is in
    let judged : after_field at (Node names) v ≡ Err (fault.Order (length names.order)) = rw old refl in
    fed-refused (Node names) at field (fault.Order (length names.order)) long (ap (after_field at (Node names)) value ∙ judged)

-- ---- entries of a row

module _ (done : ReadRows) (part : Part) (at : ℕ) (field : List ℕ) (long : length field ≡ 12) (pos : ℕ) (pos_is : pos ≡ big_number 4 field) where
  parts_are : field ≡ take 4 field ++ drop 4 field
  parts_are = sym (take-append-drop 4 field)

  first_long : length (take 4 field) ≡ 4
  first_long = omega (arith, length-take 4 field)

  value : big_number (length (take 4 field)) (take 4 field) ≡ pos
  value = ap (λ k. big_number k (take 4 field)) first_long ∙ big_from-take 0 4 4 field (omega arith) ∙ sym pos_is

  pub fed-no_position : is_next_position (next_own done) part pos ≡ false → fed (Ok (at_position done part at)) field ≡ Err (fault.Row (next_node done) (length part.entries))
  fed-no_position not_next =
      let judged : after_field at (Position done part) pos ≡ Err (fault.Row (next_node done) (length part.entries)) = rw not_next refl in
      fed-part (at_position done part at) field (take 4 field) (drop 4 field) (fault.Row (next_node done) (length part.entries)) parts_are
      (fed-refused (Position done part) at (take 4 field) (fault.Row (next_node done) (length part.entries)) first_long (ap (after_field at (Position done part)) value ∙ judged))

  module _ (position : is_next_position (next_own done) part pos ≡ true) (dist : ℕ) (dist_is : dist ≡ big_number 8 (drop 4 field)) where
    at_distance : Takes (at_position done part at) field (record { next = Distance done part pos; held = []; at = at + 4 }) (drop 4 field)
    at_distance =
        let judged : after_field at (Position done part) pos ≡ Ok (Distance done part pos) = rw position refl in
        record {
          taken = take 4 field;
          parts = parts_are;
          leads = fed-accepted (Position done part) at (take 4 field) (Distance done part pos) first_long (ap (after_field at (Position done part)) value ∙ judged)
              ∙ ap (λ k. Ok (record { next = Distance done part pos; held = []; at = at + k })) first_long;
        }

    second_long : length (drop 4 field) ≡ 8
    second_long = omega (arith, length-drop 4 field, long)

    second_value : big_number (length (drop 4 field)) (drop 4 field) ≡ dist
    second_value = ap (λ k. big_number k (drop 4 field)) second_long ∙ sym dist_is

    after : (r : Result Reached IndexFault) → fed (Ok (record { next = Distance done part pos; held = []; at = at + 4 })) (drop 4 field) ≡ r → fed (Ok (at_position done part at)) field ≡ r
    unfolding at_distance
    after r is = ap (fed (Ok (at_position done part at))) at_distance.parts ∙ fed-append (Ok (at_position done part at)) (take 4 field) (drop 4 field) ∙ ap (λ s. fed s (drop 4 field)) at_distance.leads ∙ is

    pub fed-no_distance : is_next_distance part dist ≡ false → fed (Ok (at_position done part at)) field ≡ Err (fault.Distance (next_node done) (length part.entries))
    fed-no_distance not_next =
        let judged : after_field (at + 4) (Distance done part pos) dist ≡ Err (fault.Distance (next_node done) (length part.entries)) = rw not_next refl in
        after (Err (fault.Distance (next_node done) (length part.entries)))
        (fed-refused (Distance done part pos) (at + 4) (drop 4 field) (fault.Distance (next_node done) (length part.entries)) second_long (ap (after_field (at + 4) (Distance done part pos)) second_value ∙ judged))

    -- the position and the distance of an entry
    pub fed-entry : is_next_distance part dist ≡ true → fed (Ok (at_position done part at)) field ≡ Ok (record { next = after_distance done part (record { pos = pos; dist = dist }); held = []; at = at + 12 })
    fed-entry distance =
        let judged : after_field (at + 4) (Distance done part pos) dist ≡ Ok (after_distance done part (record { pos = pos; dist = dist })) = rw distance refl in
        let end : at + 4 + length (drop 4 field) ≡ at + 12 = omega (arith, second_long) in
        after (Ok (record { next = after_distance done part (record { pos = pos; dist = dist }); held = []; at = at + 12 }))
        (fed-accepted (Distance done part pos) (at + 4) (drop 4 field) (after_distance done part (record { pos = pos; dist = dist })) second_long (ap (after_field (at + 4) (Distance done part pos)) second_value ∙ judged)
        ∙ ap (λ k. Ok (record { next = after_distance done part (record { pos = pos; dist = dist }); held = []; at = k })) end)

-- the via of an entry
module _ (done : ReadRows) (part : Part) (e : Entry) (at : ℕ) (field : List ℕ) (long : length field ≡ 4) (y : ℕ) (is : y ≡ big_number 4 field) where
  via_value : big_number (length field) field ≡ y
  via_value = ap (λ k. big_number k field) long ∙ sym is

  pub fed-no_via : is_next_via (length done.order) (next_node done) part y ≡ false → fed (Ok (at_via done part e at)) field ≡ Err (fault.Via (next_node done) (length part.entries))
  fed-no_via not_next =
      let judged : after_field at (Via done part e) y ≡ Err (fault.Via (next_node done) (length part.entries)) = rw not_next refl in
      fed-refused (Via done part e) at field (fault.Via (next_node done) (length part.entries)) long (ap (after_field at (Via done part e)) via_value ∙ judged)

  pub fed-via : is_next_via (length done.order) (next_node done) part y ≡ true → fed (Ok (at_via done part e at)) field ≡ Ok (record { next = after_entry done (with_via (with_entry part e) y); held = []; at = at + 4 })
  fed-via may =
      let judged : after_field at (Via done part e) y ≡ Ok (after_entry done (with_via (with_entry part e) y)) = rw may refl in
      fed-accepted (Via done part e) at field (after_entry done (with_via (with_entry part e) y)) long (ap (after_field at (Via done part e)) via_value ∙ judged)
      ∙ ap (λ k. Ok (record { next = after_entry done (with_via (with_entry part e) y); held = []; at = at + k })) long

-- 12 bytes, or 16
width_between : (traced : Bool) → (12 ≤ (if traced then 16 else 12)) × ((if traced then 16 else 12) ≤ 16)
width_between true = (omega arith, omega arith)
width_between false = (omega arith, omega arith)

pub entry_width-between : (done : ReadRows) → (12 ≤ entry_width done) × (entry_width done ≤ 16)
entry_width-between done = width_between (is_some done.vias)

-- an entry that isn't the last one of its row leaves the row open
pub open_row : (done : ReadRows) (part new : Part) → is_last part ≡ false → new.count ≡ part.count → length new.entries ≡ length part.entries + 1 → after_entry done new ≡ Position done new
open_row done part new more count long = rw (ne_eqb (length new.entries) new.count (λ same. eqb-false (length part.entries + 1) part.count more (omega (arith, count, long, same)))) refl

-- and the last one of a row that isn't the last closes it
pub closed_row : (done : ReadRows) (part new : Part) → is_last part ≡ true → new.count ≡ part.count → length new.entries ≡ length part.entries + 1 → length done.rows + 1 < length done.order → after_entry done new ≡ Count (with_row done new.entries new.vias)
closed_row done part new last count long more =
    rw (eq-eqb (length new.entries) new.count (omega (arith, count, long, eqb-true (length part.entries + 1) part.count last)))
    (rw (ne_eqb (length (done.rows ++ new.entries ∷ [])) (length done.order) (λ same. omega (arith, length-append done.rows (new.entries ∷ []), same, more))) refl)

-- the number of entries of a row
module _ (done : ReadRows) (at count : ℕ) (field : List ℕ) (long : length field ≡ 4) (is : count ≡ big_number 4 field) where
  count_value : big_number (length field) field ≡ count
  count_value = ap (λ k. big_number k field) long ∙ sym is

  pub fed-count : (count ≡ 0 → ⊥) → fed (Ok (at_count done at)) field ≡ Ok (at_position done (no_entries count) (at + 4))
  fed-count some =
      let judged : after_field at (Count done) count ≡ Ok (Position done (no_entries count)) = rw (ne_eqb count 0 some) refl in
      fed-accepted (Count done) at field (Position done (no_entries count)) long (ap (after_field at (Count done)) count_value ∙ judged)
      ∙ ap (λ k. Ok (record { next = Position done (no_entries count); held = []; at = at + k })) long

  pub fed-no_count : count ≡ 0 → fed (Ok (at_count done at)) field ≡ Err (fault.Row (next_node done) 0)
  fed-no_count none =
      let judged : after_field at (Count done) count ≡ Err (fault.Row (next_node done) 0) = rw (eq-eqb count 0 none) refl in
      fed-refused (Count done) at field (fault.Row (next_node done) 0) long (ap (after_field at (Count done)) count_value ∙ judged)

-- the bytes of an entry without a via
pub fed-plain : (done : ReadRows) (part : Part) (e : Entry) (at : ℕ) (field head tail : List ℕ) → is_some done.vias ≡ false → length head ≡ 12 → length field ≡ entry_width done → field ≡ head ++ tail → fed (Ok (at_position done part at)) head ≡ Ok (record { next = after_distance done part e; held = []; at = at + 12 }) → fed (Ok (at_position done part at)) field ≡ Ok (record { next = after_entry done (with_entry part e); held = []; at = at + entry_width done })
fed-plain done part e at field head tail plain head_long long parts taken =
    let whole : length field ≡ 12 = rw plain at long in
    let none : tail ≡ [] = nothing tail (omega (arith, ap length parts, length-append head tail, head_long, whole)) in
    let next : after_distance done part e ≡ after_entry done (with_entry part e) = rw plain refl in
    let width_is : 12 ≡ entry_width done = rw plain refl in
    ap (fed (Ok (at_position done part at))) (parts ∙ ap (λ t. head ++ t) none ∙ append-nil head) ∙ taken
    ∙ ap (λ n. Ok (record { next = n; held = []; at = at + 12 })) next
    ∙ ap (λ k. Ok (record { next = after_entry done (with_entry part e); held = []; at = at + k })) width_is
  where
    nothing : (xs : List ℕ) → length xs ≡ 0 → xs ≡ []
    nothing [] none = refl
    nothing (x ∷ xs) none = absurd (omega arith)

-- and of one with a via
pub fed-traced : (done : ReadRows) (part : Part) (e : Entry) (y at : ℕ) (field head tail : List ℕ) → is_some done.vias ≡ true → field ≡ head ++ tail → fed (Ok (at_position done part at)) head ≡ Ok (record { next = after_distance done part e; held = []; at = at + 12 }) → fed (Ok (at_via done part e (at + 12))) tail ≡ Ok (record { next = after_entry done (with_via (with_entry part e) y); held = []; at = at + 12 + 4 }) → fed (Ok (at_position done part at)) field ≡ Ok (record { next = after_entry done (with_via (with_entry part e) y); held = []; at = at + entry_width done })
fed-traced done part e y at field head tail traced parts taken via =
    let next : after_distance done part e ≡ Via done part e = rw traced refl in
    let width_is : at + 12 + 4 ≡ at + entry_width done = rw traced (omega arith) in
    ap (fed (Ok (at_position done part at))) parts ∙ fed-append (Ok (at_position done part at)) head tail
    ∙ ap (λ r. fed r tail) (taken ∙ ap (λ n. Ok (record { next = n; held = []; at = at + 12 })) next)
    ∙ via
    ∙ ap (λ k. Ok (record { next = after_entry done (with_via (with_entry part e) y); held = []; at = k })) width_is

-- a via that is refused
pub fed-refused_via : (done : ReadRows) (part : Part) (e : Entry) (at : ℕ) (field head tail : List ℕ) (f : IndexFault) → is_some done.vias ≡ true → field ≡ head ++ tail → fed (Ok (at_position done part at)) head ≡ Ok (record { next = after_distance done part e; held = []; at = at + 12 }) → Refuses (at_via done part e (at + 12)) tail f → Refuses (at_position done part at) field f
fed-refused_via done part e at field head tail f traced parts taken refuses =
    let next : after_distance done part e ≡ Via done part e = rw traced refl in
    let leads = taken ∙ ap (λ n. Ok (record { next = n; held = []; at = at + 12 })) next in
    Refuses-then (at_position done part at) (at_via done part e (at + 12)) field tail f (record { taken = head; parts = parts; leads = leads }) refuses

-- ---- fields by their judgement

module _ (next : Next) (at : ℕ) where
  pub Gives-refused : (field : List ℕ) (e : IndexFault) → length field ≡ width next → (e ≡ fault.NoMemory) ⊎ (after_field at next (big_number (length field) field) ≡ Err e) → (e ≡ fault.NoMemory) ⊎ (fed (Ok (record { next = next; held = []; at = at })) field ≡ Err e)
  Gives-refused field e long judged = elim judged [ inl none ↦ inl none | inr is ↦ inr (fed-refused next at field e long is) ]

  -- after a whole field the fields are sound
  pub IsSound-whole : (held field : List ℕ) (new : Next) → IsSound (record { next = next; held = held; at = at }) → held ≡ [] → IsBytes field → length field ≡ width next → after_field at next (big_number (length field) field) ≡ Ok new → IsSound (record { next = new; held = held; at = at + length field })
  IsSound-whole held field new sound none fits long is =
      let before : IsSound (record { next = next; held = []; at = at }) = subst (λ h. IsSound (record { next = next; held = h; at = at })) none sound in
      subst (λ h. IsSound (record { next = new; held = h; at = at + length field })) (sym none)
      (IsSound-fed (record { next = next; held = []; at = at }) (record { next = new; held = []; at = at + length field }) field before fits (fed-accepted next at field new long is))

  -- and after the last byte of a field
  pub IsSound-gathered : (held field cleared : List ℕ) (b size : ℕ) (new : Next) → IsSound (record { next = next; held = held; at = at }) → b < 256 → field ≡ held ++ b ∷ [] → width next ≤ length field → after_field at next (big_number (length field) field) ≡ Ok new → cleared ≡ [] → size ≡ length field → IsSound (record { next = new; held = cleared; at = at + size })
  IsSound-gathered held field cleared b size new sound small is whole judged none long =
      let one : IsBytes (b ∷ []) = IsBytes-one b small in
      let enough : length held + 1 ≡ width next = omega (arith, ap length is, length-append held (b ∷ []), sound.held) in
      let led = fed-last_accepted next at held b new enough (ap (λ f. after_field at next (big_number (length f) f)) (sym is) ∙ judged) in
      let sound_there = IsSound-fed (record { next = next; held = held; at = at }) (record { next = new; held = []; at = at + length (held ++ b ∷ []) }) (b ∷ []) sound one led in
      let same : length (held ++ b ∷ []) ≡ size = ap length (sym is) ∙ sym long in
      subst (λ h. IsSound (record { next = new; held = h; at = at + size })) (sym none) (subst (λ k. IsSound (record { next = new; held = []; at = at + k })) same sound_there)

-- no byte is held
pub IsSound-emptied : (next : Next) (at : ℕ) (held : List ℕ) → IsSound (record { next = next; held = held; at = at }) → IsSound (record { next = next; held = []; at = at })
IsSound-emptied next at held sound = record { fields = sound.fields; held = width-some next; fits = All-from_bytes [] no_bytes; offset = sound.offset }

-- bytes of a field that isn't whole are held
fed-kept : (next : Next) (at : ℕ) (held bytes : List ℕ) → length held + length bytes < width next → fed (Ok (record { next = next; held = held; at = at })) bytes ≡ Ok (record { next = next; held = held ++ bytes; at = at })
fed-kept next at held [] short = ap (λ h. Ok (record { next = next; held = h; at = at })) (sym (append-nil held))
fed-kept next at held (b ∷ bytes) short =
    rw (ne_eqb (length held + 1) (width next) (λ same. omega arith))
    (fed-kept next at (held ++ b ∷ []) bytes (omega (arith, length-append held (b ∷ []))) ∙ ap (λ h. Ok (record { next = next; held = h; at = at })) (append_assoc held (b ∷ []) bytes))

pub fed-all_kept : (next : Next) (at : ℕ) (held : List ℕ) → length held < width next → fed (Ok (record { next = next; held = []; at = at })) held ≡ Ok (record { next = next; held = held; at = at })
fed-all_kept next at held short = fed-kept next at [] held (omega (arith, short))

-- so it makes no difference when they came
pub fed-later : (next : Next) (at : ℕ) (held bytes : List ℕ) → length held < width next → fed (Ok (record { next = next; held = []; at = at })) (held ++ bytes) ≡ fed (Ok (record { next = next; held = held; at = at })) bytes
fed-later next at held bytes short = fed-append (Ok (record { next = next; held = []; at = at })) held bytes ∙ ap (λ r. fed r bytes) (fed-all_kept next at held short)

-- a reading that holds no byte
pub stands_at : (next now : Next) (held : List ℕ) (at : ℕ) (self : Reached) → record { next = next; held = held; at = at } ≡ self → next ≡ now → held ≡ [] → record { next = now; held = []; at = at } ≡ self
stands_at next now held at self is that none = ap (λ n. record { next = n; held = []; at = at }) (sym that) ∙ ap (λ h. record { next = next; held = h; at = at }) (sym none) ∙ is

-- a list of one number
pub single : (xs : List ℕ) → length xs ≡ 1 → xs ≡ get_or xs 0 0 ∷ []
single [] long = absurd (omega arith)
single (x ∷ []) long = refl
single (x ∷ y ∷ xs) long = absurd (omega arith)
