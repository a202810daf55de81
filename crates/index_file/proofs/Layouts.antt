-- The layout of a well formed index is read as the index.
use Rattle.std.proofs.Common.{◌≡◌, ◌≢◌, ℕ, suc, ◌+◌, ◌-◌, ◌^◌, ◌<◌, ◌≤◌, true, false, eqb, leb, ltb, Bool, List, [], ◌∷◌, ◌++◌, length, take, map, zip, get_or, All, Option, Some, None, IfSome, is_some, Result, Ok, Err, refl, sym, ap, subst, ◌∙◌, append_assoc, arith}
use Rattle.std.specs.Prelude.{nat_eq, not, ◌&&◌, flat_map}
use Rattle.std.specs.List.{list_any}
use Rattle.std.proofs.Math.Seq.{get_or-append_seam}
use Rattle.std.proofs.lemmas.Bool.{eq-eqb, ne_eqb, le-leb, lt-ltb, and_from, false_from_ne_true, not_from_false}
use Rattle.std.proofs.lemmas.List.{length-append, append-nil, take_at}
use Rattle.std.proofs.lemmas.List.Kept.{AllPairs-from_increasing}
use Rattle.byteorder.specs.Endian.{big_bytes, big_number}
use Rattle.byteorder.specs.Numbers.{big_number-reads_back, length-bytes_high_first}
use Rattle.walk_laws.specs.declared.entry.Entry.{Entry}
use Rattle.walk_laws.specs.Ranking.{IsRanking, position_of}
use Rattle.walk_laws.specs.Labelling.{label_row}
use Rattle.walk_laws.proofs.LabelRows.{Rises}
use Rattle.walk_laws.proofs.Positions.{position-lt}
use Rattle.index_file.proofs.RepeatedNodes.{repeated}
use Rattle.hub_index.specs.WellFormed.{own_entry, IsWellFormedRow, IsWellFormed}
use Rattle.entry_vias.specs.RowVias.{via_row, IsViaRow, HaveVias}
use Rattle.index_file.specs.declared.stored_index.StoredIndex.{StoredIndex}
use Rattle.index_file.specs.declared.stored_index.StoredIndex.TheVariants.{Plain, Traced}
use Rattle.index_file.specs.Stored.{stored_index, IsStored, file_bytes}
use Rattle.index_file.specs.declared.fault.IndexFault.{IndexFault}
use Rattle.index_file.specs.declared.next.Next.{Next}
use Rattle.index_file.specs.declared.next.Next.TheVariants.{Letter, Version, Size, Node, Count, Position, Distance, Via, End}
use Rattle.index_file.specs.Layout.{word, entry_bytes, traced_entry_bytes, row_bytes, traced_row_bytes, index_bytes, via_bytes, stored_bytes}
use Rattle.index_file.specs.Parts.{ReadRows, Part, is_new_node, no_rows, with_row, next_node, next_own, no_entries, with_entry, least_after, is_next_position, is_next_distance, is_next_via}
use Rattle.index_file.specs.Judging.{Reached, ◌>>=◌, start, width, after_row, after_distance, after_entry, after_node, after_field, fed, end_of_fields, end_of, index_of}
use Rattle.index_file.specs.Cutting.{fed-append}
use Rattle.index_file.proofs.Fields.{no_bytes, fed-field}
use Rattle.index_file.specs.Sound.{AreRows, HaveTheirVias, IsSoundNext, done_bytes, bytes_before}
use Rattle.index_file.proofs.Rising.{pos_of, least_after-prefix, below_after}
use Rattle.index_file.proofs.SoundBytes.{IsSound-start, ok_is, Leads, Leads-bytes}
use Rattle.index_file.proofs.RowsWithVias.{HaveVias-rows}
use Rattle.index_file.proofs.Sizes.{length-well_formed}

-- from any offset the bytes lead from one field to another
pub record Conforms (next : Next) (bytes : List ℕ) (new : Next) : Type 0 where
  pub way : (at : ℕ) → (end : ℕ) × (fed (Ok (record { next = next; held = []; at = at })) bytes ≡ Ok (record { next = new; held = []; at = end }))

Conforms-none : (next new : Next) → next ≡ new → Conforms next [] new
Conforms-none next new same = record { way = λ at. (at, ap (λ n. Ok (record { next = n; held = []; at = at })) same) }

Conforms-then : (a b c : Next) (xs ys : List ℕ) → Conforms a xs b → Conforms b ys c → Conforms a (xs ++ ys) c
Conforms-then a b c xs ys first second = record {
  way = λ at.
      let f = first.way at in
      let s = second.way f.0 in
      (s.0, fed-append (Ok (record { next = a; held = []; at = at })) xs ys ∙ ap (λ r. fed r ys) f.1 ∙ s.1);
}

Conforms-from : (a b c : Next) (xs : List ℕ) → a ≡ b → Conforms b xs c → Conforms a xs c
Conforms-from a b c xs same goes = subst (λ next. Conforms next xs c) (sym same) goes

Conforms-to : (a b c : Next) (xs : List ℕ) → b ≡ c → Conforms a xs b → Conforms a xs c
Conforms-to a b c xs same goes = subst (Conforms a xs) same goes

-- a number that its field accepts
Conforms-number : (next : Next) (x : ℕ) (new : Next) → x < 256 ^ width next → ((at : ℕ) → after_field at next x ≡ Ok new) → Conforms next (big_bytes (width next) x) new
Conforms-number next x new fits accepts = record {
  way = λ at.
      let long : length (big_bytes (width next) x) ≡ width next = length-bytes_high_first (width next) x in
      let back : big_number (length (big_bytes (width next) x)) (big_bytes (width next) x) ≡ x =
      ap (λ k. big_number k (big_bytes (width next) x)) long ∙ ap (big_number (width next)) (sym (append-nil (big_bytes (width next) x))) ∙ big_number-reads_back (width next) x [] fits in (
        at + length (big_bytes (width next) x),
        fed-field next at (big_bytes (width next) x) long
            ∙ ap (λ y. after_field at next y >>= λ n. Ok (record { next = n; held = []; at = at + length (big_bytes (width next) x) })) back
            ∙ ap (λ r. r >>= λ n. Ok (record { next = n; held = []; at = at + length (big_bytes (width next) x) })) (accepts at),
      );
}

-- ---- the order

new_in_ranking : (traced : Bool) (prefix left : List ℕ) (v : ℕ) → IsRanking (prefix ++ v ∷ left) → is_new_node (record { n = length (prefix ++ v ∷ left); order = prefix; traced = traced }) v ≡ true
new_in_ranking traced prefix left v ranking =
    let at = prefix ++ v ∷ left in
    let here : get_or (prefix ++ v ∷ left) (length prefix) 0 ≡ v = get_or-append_seam prefix v left 0 in
    let inside : length prefix < length (prefix ++ v ∷ left) = omega (arith, length-append prefix (v ∷ left)) in
    let node : (1 ≤ v) × (v ≤ length (prefix ++ v ∷ left)) = subst (λ x. (1 ≤ x) × (x ≤ length (prefix ++ v ∷ left))) here (ranking.node (length prefix) 0 inside) in
    let before : take (length prefix) (prefix ++ v ∷ left) ≡ prefix = take_at prefix (v ∷ left) (length prefix) refl in
    let new : list_any (nat_eq v) prefix ≡ false = false_from_ne_true (list_any (nat_eq v) prefix) (λ seen. repeated (prefix ++ v ∷ left) (length prefix) inside (subst (λ x. list_any (eqb x) (take (length prefix) (prefix ++ v ∷ left)) ≡ true) (sym here) (subst (λ xs. list_any (eqb v) xs ≡ true) (sym before) seen)) ranking.once) in
    and_from (leb 1 v) (leb v (length (prefix ++ v ∷ left)) && not (list_any (nat_eq v) prefix)) (le-leb 1 v node.0) (and_from (leb v (length (prefix ++ v ∷ left))) (not (list_any (nat_eq v) prefix)) (le-leb v _ node.1) (not_from_false (list_any (nat_eq v) prefix) new))

module _ (traced : Bool) where
  Conforms-node : (n v : ℕ) (prefix : List ℕ) → length prefix < n → v < 2 ^ 32 → is_new_node (record { n = n; order = prefix; traced = traced }) v ≡ true → Conforms (after_node (record { n = n; order = prefix; traced = traced })) (word v) (after_node (record { n = n; order = prefix ++ v ∷ []; traced = traced }))
  Conforms-node n v prefix more fits new =
      let next : after_node (record { n = n; order = prefix; traced = traced }) ≡ Node (record { n = n; order = prefix; traced = traced }) = rw (ne_eqb (length prefix) n (λ same. omega arith)) refl in
      Conforms-from _ _ _ (word v) next (Conforms-number (Node (record { n = n; order = prefix; traced = traced })) v (after_node (record { n = n; order = prefix ++ v ∷ []; traced = traced })) fits (λ at. rw new refl))

  Conforms-names : (prefix left : List ℕ) (n : ℕ) → n ≤ 2 ^ 30 → length (prefix ++ left) ≡ n → IsRanking (prefix ++ left) → Conforms (after_node (record { n = n; order = prefix; traced = traced })) (flat_map word left) (after_row (no_rows (record { n = n; order = prefix ++ left; traced = traced })))
  Conforms-names prefix [] n small size ranking =
      let all : prefix ++ [] ≡ prefix = append-nil prefix in
      Conforms-none (after_node (record { n = n; order = prefix; traced = traced })) (after_row (no_rows (record { n = n; order = prefix ++ []; traced = traced }))) (rw (eq-eqb (length prefix) n (ap length (sym all) ∙ size), all) refl)
  Conforms-names prefix (v ∷ left) n small size ranking =
      let regroup : (prefix ++ v ∷ []) ++ left ≡ prefix ++ v ∷ left = append_assoc prefix (v ∷ []) left in
      let new : is_new_node (record { n = n; order = prefix; traced = traced }) v ≡ true = subst (λ k. is_new_node (record { n = k; order = prefix; traced = traced }) v ≡ true) size (new_in_ranking traced prefix left v ranking) in
      let node : (1 ≤ get_or (prefix ++ v ∷ left) (length prefix) 0) × (get_or (prefix ++ v ∷ left) (length prefix) 0 ≤ length (prefix ++ v ∷ left)) = ranking.node (length prefix) 0 (omega (arith, length-append prefix (v ∷ left))) in
      let fits : v < 2 ^ 32 = omega (arith, node.1, get_or-append_seam prefix v left 0) in
      let one = Conforms-node n v prefix (omega (arith, length-append prefix (v ∷ left))) fits new in
      let rest = Conforms-names (prefix ++ v ∷ []) left n small (ap length regroup ∙ size) (subst IsRanking (sym regroup) ranking) in
      let rest_to = subst (λ at. Conforms (after_node (record { n = n; order = prefix ++ v ∷ []; traced = traced })) (flat_map word left) (after_row (no_rows (record { n = n; order = at; traced = traced })))) regroup rest in
      Conforms-then _ _ _ (word v) (flat_map word left) one rest_to

-- ---- one row

module _ (done : ReadRows) (count : ℕ) (prefix : List Entry) (vias : List ℕ) (fits : next_own done < 2 ^ 32) where
  -- the position and the distance of the last entry
  last_entry : least_after prefix ≤ next_own done → length prefix + 1 ≡ count →
      Conforms (Position done (record { count = count; entries = prefix; vias = vias })) (entry_bytes (own_entry done.order (next_node done))) (after_distance done (record { count = count; entries = prefix; vias = vias }) (own_entry done.order (next_node done)))
  last_entry above last =
      let is : eqb (length prefix + 1) count ≡ true = eq-eqb _ _ last in
      let position : is_next_position (next_own done) (record { count = count; entries = prefix; vias = vias }) (next_own done) ≡ true = rw (le-leb (least_after prefix) (next_own done) above, is) (eq-eqb (next_own done) (next_own done) refl) in
      let distance : is_next_distance (record { count = count; entries = prefix; vias = vias }) 0 ≡ true = rw is refl in
      Conforms-then _ _ _ (word (next_own done)) (big_bytes 8 0)
      (Conforms-number (Position done (record { count = count; entries = prefix; vias = vias })) (next_own done) (Distance done (record { count = count; entries = prefix; vias = vias }) (next_own done)) fits (λ at. rw position refl))
      (Conforms-number (Distance done (record { count = count; entries = prefix; vias = vias }) (next_own done)) 0 (after_distance done (record { count = count; entries = prefix; vias = vias }) (own_entry done.order (next_node done))) (omega arith) (λ at. rw distance refl))

  -- and those of another one
  other_entry : (e : Entry) → least_after prefix ≤ e.pos → e.pos < next_own done → (1 ≤ e.dist) × (e.dist < 2 ^ 64) → length prefix + 1 < count →
      Conforms (Position done (record { count = count; entries = prefix; vias = vias })) (entry_bytes e) (after_distance done (record { count = count; entries = prefix; vias = vias }) e)
  other_entry e above below far more =
      let is : eqb (length prefix + 1) count ≡ false = ne_eqb _ _ (λ same. omega arith) in
      let position : is_next_position (next_own done) (record { count = count; entries = prefix; vias = vias }) e.pos ≡ true = rw (le-leb (least_after prefix) e.pos above, is) (lt-ltb e.pos (next_own done) below) in
      let distance : is_next_distance (record { count = count; entries = prefix; vias = vias }) e.dist ≡ true = rw is (and_from (leb 1 e.dist) (ltb e.dist (2 ^ 64)) (le-leb 1 e.dist far.0) (lt-ltb e.dist (2 ^ 64) far.1)) in
      Conforms-then _ _ _ (word e.pos) (big_bytes 8 e.dist)
      (Conforms-number (Position done (record { count = count; entries = prefix; vias = vias })) e.pos (Distance done (record { count = count; entries = prefix; vias = vias }) e.pos) (omega arith) (λ at. rw position refl))
      (Conforms-number (Distance done (record { count = count; entries = prefix; vias = vias }) e.pos) e.dist (after_distance done (record { count = count; entries = prefix; vias = vias }) e) (omega (arith, far.1)) (λ at. rw distance refl))

-- after an entry the row is done, or there is the next one
module _ (done : ReadRows) (count : ℕ) (entries : List Entry) (vias : List ℕ) where
  row_done : length entries ≡ count → after_entry done (record { count = count; entries = entries; vias = vias }) ≡ after_row (with_row done entries vias)
  row_done whole = rw (eq-eqb (length entries) count whole) refl

  row_open : length entries < count → after_entry done (record { count = count; entries = entries; vias = vias }) ≡ Position done (record { count = count; entries = entries; vias = vias })
  row_open more = rw (ne_eqb (length entries) count (λ same. omega arith)) refl

-- ---- without vias

module _ (done : ReadRows) (plain : is_some done.vias ≡ false) (count : ℕ) (fits : next_own done < 2 ^ 32) where
  next_plain : (part : Part) (e : Entry) → after_distance done part e ≡ after_entry done (with_entry part e)
  next_plain part e = rw plain refl

  Conforms-entries : (prefix left : List Entry) → Rises pos_of (prefix ++ (left ++ own_entry done.order (next_node done) ∷ [])) → All (λ e. (1 ≤ e.dist) × (e.dist < 2 ^ 64)) left → length (prefix ++ (left ++ own_entry done.order (next_node done) ∷ [])) ≡ count →
      Conforms (Position done (record { count = count; entries = prefix; vias = [] })) (flat_map entry_bytes (left ++ own_entry done.order (next_node done) ∷ [])) (after_row (with_row done (prefix ++ (left ++ own_entry done.order (next_node done) ∷ [])) []))
  Conforms-entries prefix [] up far size =
      let long = length-append prefix (own_entry done.order (next_node done) ∷ []) in
      let is = next_plain (record { count = count; entries = prefix; vias = [] }) (own_entry done.order (next_node done)) ∙ row_done done count (prefix ++ own_entry done.order (next_node done) ∷ []) [] size in
      subst (λ bytes. Conforms (Position done (record { count = count; entries = prefix; vias = [] })) bytes (after_row (with_row done (prefix ++ own_entry done.order (next_node done) ∷ []) []))) (sym (append-nil (entry_bytes (own_entry done.order (next_node done)))))
      (Conforms-to _ _ _ (entry_bytes (own_entry done.order (next_node done))) is (last_entry done count prefix [] fits (least_after-prefix prefix (own_entry done.order (next_node done)) [] up) (sym long ∙ size)))
  Conforms-entries prefix (e ∷ left) up far size =
      let regroup : (prefix ++ e ∷ []) ++ (left ++ own_entry done.order (next_node done) ∷ []) ≡ prefix ++ (e ∷ (left ++ own_entry done.order (next_node done) ∷ [])) = append_assoc prefix (e ∷ []) (left ++ own_entry done.order (next_node done) ∷ []) in
      let above = least_after-prefix prefix e (left ++ own_entry done.order (next_node done) ∷ []) up in
      let below = below_after prefix e left (own_entry done.order (next_node done)) up in
      let long = length-append prefix (e ∷ (left ++ own_entry done.order (next_node done) ∷ [])) in
      let longer = length-append left (own_entry done.order (next_node done) ∷ []) in
      let more : length (prefix ++ e ∷ []) < count = omega (arith, long, longer, size, length-append prefix (e ∷ [])) in
      let is = next_plain (record { count = count; entries = prefix; vias = [] }) e ∙ row_open done count (prefix ++ e ∷ []) [] more in
      let one = Conforms-to _ _ _ (entry_bytes e) is (other_entry done count prefix [] fits e above below (far 0 e (omega arith)) (omega (arith, more, length-append prefix (e ∷ [])))) in
      let rest = Conforms-entries (prefix ++ e ∷ []) left (subst (Rises pos_of) (sym regroup) up) (λ k d within. far (suc k) d (omega arith)) (ap length regroup ∙ size) in
      Conforms-then _ _ _ (entry_bytes e) (flat_map entry_bytes (left ++ own_entry done.order (next_node done) ∷ [])) one
      (subst (λ row. Conforms (Position done (record { count = count; entries = prefix ++ e ∷ []; vias = [] })) (flat_map entry_bytes (left ++ own_entry done.order (next_node done) ∷ [])) (after_row (with_row done row []))) regroup rest)

-- ---- with vias

module _ (done : ReadRows) (traced : is_some done.vias ≡ true) (count : ℕ) (fits : next_own done < 2 ^ 32) where
  next_traced : (part : Part) (e : Entry) → after_distance done part e ≡ Via done part e
  next_traced part e = rw traced refl

  last_via : (prefix : List Entry) (vias : List ℕ) (e : Entry) → length prefix + 1 ≡ count →
      Conforms (Via done (record { count = count; entries = prefix; vias = vias }) e) (word 0) (after_entry done (record { count = count; entries = prefix ++ e ∷ []; vias = vias ++ 0 ∷ [] }))
  last_via prefix vias e last =
      let is : eqb (length prefix + 1) count ≡ true = eq-eqb _ _ last in
      let via : is_next_via (length done.order) (next_node done) (record { count = count; entries = prefix; vias = vias }) 0 ≡ true = rw is refl in
      Conforms-number (Via done (record { count = count; entries = prefix; vias = vias }) e) 0 (after_entry done (record { count = count; entries = prefix ++ e ∷ []; vias = vias ++ 0 ∷ [] })) (omega arith) (λ at. rw via refl)

  other_via : (prefix : List Entry) (vias : List ℕ) (e : Entry) (y : ℕ) → (1 ≤ y) × (y ≤ length done.order) × (y ≢ next_node done) → y < 2 ^ 32 → length prefix + 1 < count →
      Conforms (Via done (record { count = count; entries = prefix; vias = vias }) e) (word y) (after_entry done (record { count = count; entries = prefix ++ e ∷ []; vias = vias ++ y ∷ [] }))
  other_via prefix vias e y node small more =
      let is : eqb (length prefix + 1) count ≡ false = ne_eqb _ _ (λ same. omega arith) in
      let other : not (eqb y (next_node done)) ≡ true = not_from_false (eqb y (next_node done)) (ne_eqb y (next_node done) node.2) in
      let via : is_next_via (length done.order) (next_node done) (record { count = count; entries = prefix; vias = vias }) y ≡ true = rw is (and_from (leb 1 y) (leb y (length done.order) && not (eqb y (next_node done))) (le-leb 1 y node.0) (and_from (leb y (length done.order)) (not (eqb y (next_node done))) (le-leb y (length done.order) node.1) other)) in
      Conforms-number (Via done (record { count = count; entries = prefix; vias = vias }) e) y (after_entry done (record { count = count; entries = prefix ++ e ∷ []; vias = vias ++ y ∷ [] })) small (λ at. rw via refl)

  Conforms-traced_entries : (prefix left : List Entry) (vias ahead : List ℕ) → Rises pos_of (prefix ++ (left ++ own_entry done.order (next_node done) ∷ [])) → All (λ e. (1 ≤ e.dist) × (e.dist < 2 ^ 64)) left → length (prefix ++ (left ++ own_entry done.order (next_node done) ∷ [])) ≡ count →
      length ahead ≡ length left → All (λ y. (1 ≤ y) × (y ≤ length done.order) × (y ≢ next_node done)) ahead → length done.order < 2 ^ 32 →
      Conforms (Position done (record { count = count; entries = prefix; vias = vias })) (flat_map traced_entry_bytes (zip (left ++ own_entry done.order (next_node done) ∷ []) (ahead ++ 0 ∷ []))) (after_row (with_row done (prefix ++ (left ++ own_entry done.order (next_node done) ∷ [])) (vias ++ (ahead ++ 0 ∷ []))))
  Conforms-traced_entries prefix [] vias [] up far size same node few =
      let long = length-append prefix (own_entry done.order (next_node done) ∷ []) in
      let last : length prefix + 1 ≡ count = sym long ∙ size in
      let one = Conforms-to _ _ _ (entry_bytes (own_entry done.order (next_node done))) (next_traced (record { count = count; entries = prefix; vias = vias }) (own_entry done.order (next_node done))) (last_entry done count prefix vias fits (least_after-prefix prefix (own_entry done.order (next_node done)) [] up) last) in
      let via = Conforms-to _ _ _ (word 0) (row_done done count (prefix ++ own_entry done.order (next_node done) ∷ []) (vias ++ 0 ∷ []) size) (last_via prefix vias (own_entry done.order (next_node done)) last) in
      subst (λ bytes. Conforms (Position done (record { count = count; entries = prefix; vias = vias })) bytes (after_row (with_row done (prefix ++ own_entry done.order (next_node done) ∷ []) (vias ++ 0 ∷ [])))) (sym (append-nil (traced_entry_bytes (own_entry done.order (next_node done), 0))))
      (Conforms-then _ _ _ (entry_bytes (own_entry done.order (next_node done))) (word 0) one via)
  Conforms-traced_entries prefix [] vias (y ∷ ahead) up far size same node few = absurd (omega arith)
  Conforms-traced_entries prefix (e ∷ left) vias [] up far size same node few = absurd (omega arith)
  Conforms-traced_entries prefix (e ∷ left) vias (y ∷ ahead) up far size same node few =
      let regroup : (prefix ++ e ∷ []) ++ (left ++ own_entry done.order (next_node done) ∷ []) ≡ prefix ++ (e ∷ (left ++ own_entry done.order (next_node done) ∷ [])) = append_assoc prefix (e ∷ []) (left ++ own_entry done.order (next_node done) ∷ []) in
      let beside : (vias ++ y ∷ []) ++ (ahead ++ 0 ∷ []) ≡ vias ++ (y ∷ (ahead ++ 0 ∷ [])) = append_assoc vias (y ∷ []) (ahead ++ 0 ∷ []) in
      let above = least_after-prefix prefix e (left ++ own_entry done.order (next_node done) ∷ []) up in
      let below = below_after prefix e left (own_entry done.order (next_node done)) up in
      let long = length-append prefix (e ∷ (left ++ own_entry done.order (next_node done) ∷ [])) in
      let longer = length-append left (own_entry done.order (next_node done) ∷ []) in
      let more : length (prefix ++ e ∷ []) < count = omega (arith, long, longer, size, length-append prefix (e ∷ [])) in
      let before : length prefix + 1 < count = omega (arith, more, length-append prefix (e ∷ [])) in
      let here : (1 ≤ y) × (y ≤ length done.order) × (y ≢ next_node done) = node 0 y (omega arith) in
      let one = Conforms-to _ _ _ (entry_bytes e) (next_traced (record { count = count; entries = prefix; vias = vias }) e) (other_entry done count prefix vias fits e above below (far 0 e (omega arith)) before) in
      let via = Conforms-to _ _ _ (word y) (row_open done count (prefix ++ e ∷ []) (vias ++ y ∷ []) more) (other_via prefix vias e y here (omega (arith, here.1, few)) before) in
      let rest = Conforms-traced_entries (prefix ++ e ∷ []) left (vias ++ y ∷ []) ahead (subst (Rises pos_of) (sym regroup) up) (λ k d within. far (suc k) d (omega arith)) (ap length regroup ∙ size) (omega arith) (λ k d within. node (suc k) d (omega arith)) few in
      let rest_to = subst (λ row. Conforms (Position done (record { count = count; entries = prefix ++ e ∷ []; vias = vias ++ y ∷ [] })) (flat_map traced_entry_bytes (zip (left ++ own_entry done.order (next_node done) ∷ []) (ahead ++ 0 ∷ []))) (after_row (with_row done row ((vias ++ y ∷ []) ++ (ahead ++ 0 ∷ []))))) regroup rest in
      let rest_both = subst (λ ys. Conforms (Position done (record { count = count; entries = prefix ++ e ∷ []; vias = vias ++ y ∷ [] })) (flat_map traced_entry_bytes (zip (left ++ own_entry done.order (next_node done) ∷ []) (ahead ++ 0 ∷ []))) (after_row (with_row done (prefix ++ (e ∷ (left ++ own_entry done.order (next_node done) ∷ []))) ys))) beside rest_to in
      Conforms-then _ _ _ (traced_entry_bytes (e, y)) (flat_map traced_entry_bytes (zip (left ++ own_entry done.order (next_node done) ∷ []) (ahead ++ 0 ∷ []))) (Conforms-then _ _ _ (entry_bytes e) (word y) one via) rest_both

-- ---- all rows

module _ (done : ReadRows) (row : List Entry) (is : IsWellFormedRow done.order (next_node done) row) (more : length done.rows < length done.order) (few : length row < 2 ^ 32) where
  up : Rises pos_of row
  up = AllPairs-from_increasing (map pos_of row) is.rising

  next : after_row done ≡ Count done
  next = rw (ne_eqb (length done.rows) (length done.order) (λ same. omega arith)) refl

  some : eqb (length row) 0 ≡ false
  some = ne_eqb _ _ (λ none. omega (arith, ap length is.ends, length-append is.others (own_entry done.order (next_node done) ∷ [])))

  Conforms-count : Conforms (after_row done) (word (length row)) (Position done (no_entries (length row)))
  Conforms-count = Conforms-from _ _ _ (word (length row)) next (Conforms-number (Count done) (length row) (Position done (no_entries (length row))) few (λ at. rw some refl))

  Conforms-row : is_some done.vias ≡ false → next_own done < 2 ^ 32 → Conforms (after_row done) (row_bytes row) (after_row (with_row done row []))
  Conforms-row plain fits =
      let entries = Conforms-entries done plain (length row) fits [] is.others (subst (Rises pos_of) is.ends up) is.far (sym (ap length is.ends)) in
      let entries_of_row = subst (λ r. Conforms (Position done (no_entries (length row))) (flat_map entry_bytes r) (after_row (with_row done r []))) (sym is.ends) entries in
      Conforms-then _ _ _ (word (length row)) (flat_map entry_bytes row) Conforms-count entries_of_row

  Conforms-traced_row : (vias : List ℕ) → is_some done.vias ≡ true → IsViaRow (length done.order) (next_node done) row vias → next_own done < 2 ^ 32 → length done.order < 2 ^ 32 → Conforms (after_row done) (traced_row_bytes (row, vias)) (after_row (with_row done row vias))
  Conforms-traced_row vias traced have fits small =
      let same : length have.others ≡ length is.others = omega (arith, ap length is.ends, length-append is.others (own_entry done.order (next_node done) ∷ []), have.size, ap length have.ends, length-append have.others (0 ∷ [])) in
      let entries = Conforms-traced_entries done traced (length row) fits [] is.others [] have.others (subst (Rises pos_of) is.ends up) is.far (sym (ap length is.ends)) same have.node small in
      let entries_of_row = subst (λ r. Conforms (Position done (no_entries (length row))) (flat_map traced_entry_bytes (zip r (have.others ++ 0 ∷ []))) (after_row (with_row done r (have.others ++ 0 ∷ [])))) (sym is.ends) entries in
      let both = subst (λ ys. Conforms (Position done (no_entries (length row))) (flat_map traced_entry_bytes (zip row ys)) (after_row (with_row done row ys))) (sym have.ends) entries_of_row in
      Conforms-then _ _ _ (word (length row)) (flat_map traced_entry_bytes (zip row vias)) Conforms-count both

-- one of the rows of a well formed index
module _ (order : List ℕ) (prefix : List (List Entry)) (row : List Entry) (left : List (List Entry)) (is : IsWellFormed order (prefix ++ row ∷ left)) where
  place : length prefix + 1 - 1 ≡ length prefix
  place = omega arith

  more_rows : length prefix < length order
  more_rows = omega (arith, is.size, length-append prefix (row ∷ left))

  this_row : IsWellFormedRow order (length prefix + 1) row
  this_row =
      let here : label_row (prefix ++ row ∷ left) (length prefix + 1) ≡ row = ap (λ i. get_or (prefix ++ row ∷ left) i []) place ∙ get_or-append_seam prefix row left [] in
      subst (IsWellFormedRow order (length prefix + 1)) here (is.row (length prefix + 1) (omega arith) (omega (arith, more_rows)))

  own_below : position_of order (length prefix + 1) < length order
  own_below = position-lt order (length prefix + 1) is.ranking (omega arith) (omega (arith, more_rows))

  few_entries : length row < 2 ^ 32
  few_entries = omega (arith, length-well_formed order (length prefix + 1) row this_row, own_below, is.small)

  own_fits : position_of order (length prefix + 1) < 2 ^ 32
  own_fits = omega (arith, own_below, is.small)

Conforms-rows : (order : List ℕ) (prefix left : List (List Entry)) → IsWellFormed order (prefix ++ left) → Conforms (after_row (record { order = order; rows = prefix; vias = None })) (flat_map row_bytes left) (after_row (record { order = order; rows = prefix ++ left; vias = None }))
Conforms-rows order prefix [] is = Conforms-none _ _ (ap (λ rows. after_row (record { order = order; rows = rows; vias = None })) (sym (append-nil prefix)))
Conforms-rows order prefix (row ∷ left) is =
    let one = Conforms-row (record { order = order; rows = prefix; vias = None }) row (this_row order prefix row left is) (more_rows order prefix row left is) (few_entries order prefix row left is) refl (own_fits order prefix row left is) in
    let regroup : (prefix ++ row ∷ []) ++ left ≡ prefix ++ row ∷ left = append_assoc prefix (row ∷ []) left in
    let rest = Conforms-rows order (prefix ++ row ∷ []) left (subst (IsWellFormed order) (sym regroup) is) in
    Conforms-then _ _ _ (row_bytes row) (flat_map row_bytes left) one (subst (λ rows. Conforms (after_row (record { order = order; rows = prefix ++ row ∷ []; vias = None })) (flat_map row_bytes left) (after_row (record { order = order; rows = rows; vias = None }))) regroup rest)

Conforms-traced_rows : (order : List ℕ) (prefix left : List (List Entry)) (vias ahead : List (List ℕ)) → IsWellFormed order (prefix ++ left) → HaveVias (prefix ++ left) (vias ++ ahead) → length vias ≡ length prefix → Conforms (after_row (record { order = order; rows = prefix; vias = Some vias })) (flat_map traced_row_bytes (zip left ahead)) (after_row (record { order = order; rows = prefix ++ left; vias = Some (vias ++ ahead) }))
Conforms-traced_rows order prefix [] vias [] is have same = Conforms-none _ _ (rw (append-nil prefix, append-nil vias) refl)
Conforms-traced_rows order prefix [] vias (ys ∷ ahead) is have same = absurd (omega (arith, have.size, length-append prefix [], length-append vias (ys ∷ ahead)))
Conforms-traced_rows order prefix (row ∷ left) vias [] is have same = absurd (omega (arith, have.size, length-append prefix (row ∷ left), length-append vias []))
Conforms-traced_rows order prefix (row ∷ left) vias (ys ∷ ahead) is have same =
    let done : ReadRows = record { order = order; rows = prefix; vias = Some vias } in
    let more = more_rows order prefix row left is in
    let within : length prefix + 1 ≤ length (prefix ++ row ∷ left) = omega (arith, length-append prefix (row ∷ left)) in
    let here : label_row (prefix ++ row ∷ left) (length prefix + 1) ≡ row = ap (λ i. get_or (prefix ++ row ∷ left) i []) (place order prefix row left is) ∙ get_or-append_seam prefix row left [] in
    let at : length prefix + 1 - 1 ≡ length vias = omega (arith, same) in
    let beside : via_row (vias ++ ys ∷ ahead) (length prefix + 1) ≡ ys = ap (λ i. get_or (vias ++ ys ∷ ahead) i []) at ∙ get_or-append_seam vias ys ahead [] in
    let own_vias : IsViaRow (length (prefix ++ row ∷ left)) (length prefix + 1) row ys = subst (λ r. IsViaRow (length (prefix ++ row ∷ left)) (length prefix + 1) r ys) here (subst (IsViaRow (length (prefix ++ row ∷ left)) (length prefix + 1) (label_row (prefix ++ row ∷ left) (length prefix + 1))) beside (have.row (length prefix + 1) (omega arith) within)) in
    let its_vias : IsViaRow (length order) (length prefix + 1) row ys = subst (λ n. IsViaRow n (length prefix + 1) row ys) is.size own_vias in
    let one = Conforms-traced_row (record { order = order; rows = prefix; vias = Some vias }) row (this_row order prefix row left is) more (few_entries order prefix row left is) ys refl its_vias (own_fits order prefix row left is) (omega (arith, is.small)) in
    let regroup : (prefix ++ row ∷ []) ++ left ≡ prefix ++ row ∷ left = append_assoc prefix (row ∷ []) left in
    let regroup_vias : (vias ++ ys ∷ []) ++ ahead ≡ vias ++ ys ∷ ahead = append_assoc vias (ys ∷ []) ahead in
    let have_next : HaveVias ((prefix ++ row ∷ []) ++ left) ((vias ++ ys ∷ []) ++ ahead) = subst (λ rows. HaveVias rows ((vias ++ ys ∷ []) ++ ahead)) (sym regroup) (subst (HaveVias (prefix ++ row ∷ left)) (sym regroup_vias) have) in
    let rest = Conforms-traced_rows order (prefix ++ row ∷ []) left (vias ++ ys ∷ []) ahead (subst (IsWellFormed order) (sym regroup) is) have_next (omega (arith, same, length-append prefix (row ∷ []), length-append vias (ys ∷ []))) in
    let rest_rows = subst (λ rows. Conforms (after_row (record { order = order; rows = prefix ++ row ∷ []; vias = Some (vias ++ ys ∷ []) })) (flat_map traced_row_bytes (zip left ahead)) (after_row (record { order = order; rows = rows; vias = Some ((vias ++ ys ∷ []) ++ ahead) }))) regroup rest in
    let rest_both = subst (λ all. Conforms (after_row (record { order = order; rows = prefix ++ row ∷ []; vias = Some (vias ++ ys ∷ []) })) (flat_map traced_row_bytes (zip left ahead)) (after_row (record { order = order; rows = prefix ++ row ∷ left; vias = Some all }))) regroup_vias rest_rows in
    Conforms-then _ _ _ (traced_row_bytes (row, ys)) (flat_map traced_row_bytes (zip left ahead)) one rest_both

-- ---- the whole file

Conforms-head : (traced : Bool) (at : List ℕ) → IsRanking at → length at ≤ 2 ^ 30 → Conforms (Size traced) (word (length at) ++ flat_map word at) (after_row (no_rows (record { n = length at; order = at; traced = traced })))
Conforms-head traced at ranking small =
    let size = Conforms-number (Size traced) (length at) (after_node (record { n = length at; order = []; traced = traced })) (omega (arith, small)) (λ offset. rw (le-leb (length at) (2 ^ 30) small) refl) in
    Conforms-then _ _ _ (word (length at)) (flat_map word at) size (Conforms-names traced [] at (length at) small refl ranking)

Conforms-all : (at : List ℕ) (rows : List (List Entry)) → IsWellFormed at rows → Conforms (Size false) ((word (length at) ++ flat_map word at) ++ flat_map row_bytes rows) (End (record { order = at; rows = rows; vias = None }))
Conforms-all at rows is =
    let end : after_row (record { order = at; rows = rows; vias = None }) ≡ End (record { order = at; rows = rows; vias = None }) = rw (eq-eqb (length rows) (length at) is.size) refl in
    let all_rows = Conforms-to _ _ _ (flat_map row_bytes rows) end (Conforms-rows at [] rows is) in
    Conforms-then _ _ _ (word (length at) ++ flat_map word at) (flat_map row_bytes rows) (Conforms-head false at is.ranking is.small) all_rows

Conforms-traced : (at : List ℕ) (rows : List (List Entry)) (vias : List (List ℕ)) → IsWellFormed at rows → HaveVias rows vias → Conforms (Size true) ((word (length at) ++ flat_map word at) ++ flat_map traced_row_bytes (zip rows vias)) (End (record { order = at; rows = rows; vias = Some vias }))
Conforms-traced at rows vias is have =
    let end : after_row (record { order = at; rows = rows; vias = Some vias }) ≡ End (record { order = at; rows = rows; vias = Some vias }) = rw (eq-eqb (length rows) (length at) is.size) refl in
    let all_rows = Conforms-to _ _ _ (flat_map traced_row_bytes (zip rows vias)) end (Conforms-traced_rows at [] rows [] vias is have refl) in
    Conforms-then _ _ _ (word (length at) ++ flat_map word at) (flat_map traced_row_bytes (zip rows vias)) (Conforms-head true at is.ranking is.small) all_rows

-- the layout is read as the index
pub index_of-layout : (at : List ℕ) (rows : List (List Entry)) → IsWellFormed at rows → index_of (index_bytes at rows) ≡ Ok (Plain (record { order = at; rows = rows }))
index_of-layout at rows is = let all = (Conforms-all at rows is).way 8 in ap end_of all.1

-- with its vias
pub index_of-traced_layout : (at : List ℕ) (rows : List (List Entry)) (vias : List (List ℕ)) → IsWellFormed at rows → HaveVias rows vias → index_of (via_bytes at rows vias) ≡ Ok (Traced (record { order = at; rows = rows; vias = vias }))
index_of-traced_layout at rows vias is have = let all = (Conforms-traced at rows vias is have).way 8 in ap end_of all.1

pub index_of-file_bytes : (stored : StoredIndex) → IsStored stored → index_of (file_bytes stored) ≡ Ok stored
index_of-file_bytes (Plain i) is = index_of-layout i.order i.rows is
index_of-file_bytes (Traced t) is = index_of-traced_layout t.order t.rows t.vias is.0 is.1

-- ---- and only the layout

-- at the end there is a whole index
pub record EndsAt (next : Next) (stored : StoredIndex) : Type 0 where
  pub done : ReadRows
  pub end : next ≡ End done
  pub is : stored_index done.order done.rows done.vias ≡ stored

pub ends_there : (size : ℕ) (next : Next) (stored : StoredIndex) → end_of_fields size next ≡ Ok stored → EndsAt next stored
ends_there size Letter stored is = absurd cc
ends_there size Version stored is = absurd cc
ends_there size (Size traced) stored is = absurd cc
ends_there size (Node names) stored is = absurd cc
ends_there size (Count rows) stored is = absurd cc
ends_there size (Position rows part) stored is = absurd cc
ends_there size (Distance rows part pos) stored is = absurd cc
ends_there size (Via rows part e) stored is = absurd cc
ends_there size (End rows) stored is = record { done = rows; end = refl; is = ok_is (stored_index rows.order rows.rows rows.vias) stored is }

IsStored-parts : (order : List ℕ) (rows : List (List Entry)) (all : Option (List (List ℕ))) → IsWellFormed order rows → HaveTheirVias (length order) rows all → IsStored (stored_index order rows all)
IsStored-parts order rows None is have = is
IsStored-parts order rows (Some vias) is have = (is, HaveVias-rows (length order) rows vias have is.size)

pub IsWellFormed-rows : (done : ReadRows) → AreRows done → length done.rows ≡ length done.order → IsWellFormed done.order done.rows
IsWellFormed-rows done are whole = record {
  ranking = are.ranking;
  small = are.small;
  size = whole;
  row = λ v from_one within. are.row v from_one (omega arith);
}

-- what vias they have may stand beside them
have_vias : (n : ℕ) (rows : List (List Entry)) (all : Option (List (List ℕ))) → HaveTheirVias n rows all → length rows ≡ n → IfSome all (HaveVias rows)
have_vias n rows None have whole = tt
have_vias n rows (Some vias) have whole = HaveVias-rows n rows vias have whole

pub HaveVias-done : (done : ReadRows) → AreRows done → length done.rows ≡ length done.order → IfSome done.vias (HaveVias done.rows)
HaveVias-done done are whole = have_vias (length done.order) done.rows done.vias are.vias whole

pub IsStored-rows : (done : ReadRows) → AreRows done → length done.rows ≡ length done.order → IsStored (stored_index done.order done.rows done.vias)
IsStored-rows done are whole = IsStored-parts done.order done.rows done.vias (IsWellFormed-rows done are whole) are.vias

bytes_of_parts : (order : List ℕ) (rows : List (List Entry)) (all : Option (List (List ℕ))) → stored_bytes order rows all ≡ file_bytes (stored_index order rows all)
bytes_of_parts order rows None = refl
bytes_of_parts order rows (Some vias) = refl

nothing_held : (held : List ℕ) → length held < 1 → held ≡ []
nothing_held [] short = refl
nothing_held (b ∷ held) short = absurd (omega arith)

end_of_bytes : (bytes : List ℕ) (p : Reached) (done : ReadRows) → Leads start bytes p → p.next ≡ End done → IsStored (stored_index done.order done.rows done.vias) × (bytes ≡ file_bytes (stored_index done.order done.rows done.vias))
end_of_bytes bytes p done leads end =
    let fields : IsSoundNext p.at (End done) = subst (IsSoundNext p.at) end leads.sound.fields in
    let short : length p.held < width (End done) = subst (λ next. length p.held < width next) end leads.sound.held in
    let none : p.held ≡ [] = nothing_held p.held short in
    let before : bytes_before p.at p.next ≡ done_bytes done = ap (bytes_before p.at) end in
    let all : bytes_before p.at p.next ++ p.held ≡ bytes = leads.bytes_are in
    (IsStored-rows done fields.0 fields.1, sym all ∙ ap (λ t. t ++ p.held) before ∙ ap (λ t. done_bytes done ++ t) none ∙ append-nil (done_bytes done) ∙ bytes_of_parts done.order done.rows done.vias)

pub layout-index_of : (bytes : List ℕ) (stored : StoredIndex) → All (λ b. b < 256) bytes → index_of bytes ≡ Ok stored → IsStored stored × (bytes ≡ file_bytes stored)
layout-index_of bytes stored small is = go (fed (Ok start) bytes) refl is
  where
    go : (r : Result Reached IndexFault) → fed (Ok start) bytes ≡ r → end_of r ≡ Ok stored → IsStored stored × (bytes ≡ file_bytes stored)
    go (Ok p) led ends =
        let at = ends_there (p.at + length p.held) p.next stored ends in
        subst (λ s. IsStored s × (bytes ≡ file_bytes s)) at.is (end_of_bytes bytes p at.done (Leads-bytes bytes start p IsSound-start no_bytes small led) at.end)
    go (Err e) led ends = absurd cc
