-- A row at each of whose places exactly one visit put an entry: its entries are those that were put.
use Rattle.std.proofs.Common.{◌≡◌, ℕ, ◌+◌, ◌-◌, ◌<◌, ◌≤◌, cond, List, [], ◌∷◌, ◌++◌, All, IsPermutation, length, get_or, eq-eqb, refl, sym, ap, ◌∙◌, subst, arith}
use Rattle.std.specs.Prelude.{Option, Some, None, map, flat_map}
use Rattle.std.specs.List.{range_with_len}
use Rattle.std.proofs.lemmas.List.{map-append, append_assoc, append-nil, length-append}
use Rattle.std.proofs.lemmas.List.Elements.{All-head, All-tail, All-map}
use Rattle.std.proofs.lemmas.List.Sorted.{IsPermutation-map}
use native.Mathlib.Decide.{dec_lt}
use mathlib.Core.Logic.{dite}
use Rattle.walk_laws.specs.declared.entry.Entry.{Entry}
use Rattle.hub_index.specs.Views.{GoesOnFrom}
use Rattle.table_seats.specs.Numbers.{numbers}
use Rattle.table_seats.proofs.Counting.{times, once, times-push, times-permutation, numbers-push}
use Rattle.label_rows.specs.declared.rule.Visit.{Visit}
use Rattle.label_rows.specs.Visits.{put_list, left_by, longest, place_of}
use Rattle.label_rows.proofs.SeenRows.{longest-still, longest-places}

nothing : Entry
nothing = record { pos = 0; dist = 0 }

-- the entry after others in a row that goes on from them
after : (found more : List Entry) (e : Entry) → get_or ((found ++ e ∷ []) ++ more) (length found) nothing ≡ e
after [] more e = refl
after (x ∷ xs) more e = after xs more e

-- the entries that were put are those of the row at their places
puts-at : (row : List Entry) (xs : List Visit) → All (λ x. GoesOnFrom (left_by x) row) xs
    → flat_map (λ x. put_list x.put) xs ≡ map (λ i. get_or row i nothing) (flat_map (λ x. place_of x.put (length x.found)) xs)
puts-at row [] all = refl
puts-at row (x ∷ xs) all =
    let here = at_place x.put (All-head (λ y. GoesOnFrom (left_by y) row) x xs all) in
    let rest = puts-at row xs (All-tail (λ y. GoesOnFrom (left_by y) row) x xs all) in
    (λ k. here k ++ rest k) ∙ sym (map-append (λ i. get_or row i nothing) (place_of x.put (length x.found)) (flat_map (λ y. place_of y.put (length y.found)) xs))
  where
    at_place : (put : Option Entry) → GoesOnFrom (x.found ++ put_list put) row → put_list put ≡ map (λ i. get_or row i nothing) (place_of put (length x.found))
    at_place None g = refl
    at_place (Some e) g = ap (λ y. y ∷ []) (sym (ap (λ es. get_or es (length x.found) nothing) g.grown ∙ after x.found g.more e))

-- a row is its entries at the numbers below its length
each_place : (row before : List Entry) → map (λ i. get_or (before ++ row) i nothing) (range_with_len (length before) (length row)) ≡ row
each_place [] before = refl
each_place (e ∷ es) before =
    let longer : length (before ++ e ∷ []) ≡ length before + 1 = length-append before (e ∷ []) in
    let whole : (before ++ e ∷ []) ++ es ≡ before ++ e ∷ es = append_assoc before (e ∷ []) es in
    let here : get_or (before ++ e ∷ es) (length before) nothing ≡ e = ap (λ xs. get_or xs (length before) nothing) (sym whole) ∙ after before es e in
    let rest =
    ap (λ k. map (λ i. get_or (before ++ e ∷ es) i nothing) (range_with_len k (length es))) (sym longer)
    ∙ ap (λ xs. map (λ i. get_or xs i nothing) (range_with_len (length (before ++ e ∷ [])) (length es))) (sym whole)
    ∙ each_place es (before ++ e ∷ []) in
    λ k. here k ∷ rest k

pub puts-row : (row : List Entry) (xs : List Visit) → All (λ x. GoesOnFrom (left_by x) row) xs
    → IsPermutation (flat_map (λ x. place_of x.put (length x.found)) xs) (numbers 0 (length row)) → IsPermutation (flat_map (λ x. put_list x.put) xs) row
puts-row row xs all places =
    let all_places : length row - 0 ≡ length row = omega arith in
    let whole = ap (λ n. map (λ i. get_or row i nothing) (range_with_len 0 n)) all_places ∙ each_place row [] in
    subst (λ ys. IsPermutation ys row) (sym (puts-at row xs all))
    (subst (IsPermutation (map (λ i. get_or row i nothing) (flat_map (λ x. place_of x.put (length x.found)) xs))) whole
    (IsPermutation-map (λ i. get_or row i nothing) _ _ places))

empty_by_length : (xs : List Entry) → length xs ≡ 0 → xs ≡ []
empty_by_length [] none = refl
empty_by_length (x ∷ xs) none = absurd (omega (arith, none))

-- a row of whose entries each was put by a visit is the longest that a visit left
pub row_seen : (row : List Entry) (xs : List Visit) → All (λ x. GoesOnFrom (left_by x) row) xs
    → IsPermutation (flat_map (λ x. place_of x.put (length x.found)) xs) (numbers 0 (length row)) → row ≡ longest (map left_by xs)
row_seen row xs all places =
    let seen = longest-still row (map left_by xs) (All-map (λ x. GoesOnFrom x row) left_by xs all) in
    let longer : length row ≤ length (longest (map left_by xs)) = dite (dec_lt 0 (length row)) as_long (λ none. omega (arith, none)) in
    let parted = ap length seen.grown ∙ length-append (longest (map left_by xs)) seen.more in
    seen.grown ∙ ap (λ more. longest (map left_by xs) ++ more) (empty_by_length seen.more (omega (arith, longer, parted))) ∙ append-nil (longest (map left_by xs))
  where
    as_long : 0 < length row → length row ≤ length (longest (map left_by xs))
    as_long some =
        let last : ℕ = length row - 1 in
        let next : last + 1 ≡ length row = omega (arith, some) in
        let once_there : once last last ≡ 1 = ap (λ b. cond b 1 0) (eq-eqb last last refl) in
        let there = ap (λ n. times last (numbers 0 n)) (sym next) ∙ ap (times last) (numbers-push 0 last (omega arith)) ∙ times-push last (numbers 0 last) last in
        let put = times-permutation last _ _ places in
        let beyond = longest-places last xs (omega (arith, once_there, there, put)) in
        omega (arith, beyond, next)
