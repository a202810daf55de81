-- What the rows of an index come to has room.
use Rattle.std.proofs.Common.{◌≡◌, ◌∙◌, ap, sym, subst, ℕ, ◌+◌, ◌-◌, ◌^◌, ◌<◌, ◌≤◌, List, [], ◌∷◌, ◌++◌, length, map, get_or, take, arith}
use Rattle.std.specs.Prelude.{All}
use Rattle.std.specs.List.{sum_by}
use Rattle.std.proofs.lemmas.List.{length-append, get_or_default}
use Rattle.std.proofs.lemmas.List.Elements.{All-append, All-cons, All-nil, Contains-get_or}
use Rattle.std.proofs.lemmas.List.Kept.{AllPairs-from_increasing}
use Rattle.std.proofs.lemmas.List.Sums.{sum_by-le, sum_by_more, sum_by_more_le}
use Rattle.walk_laws.specs.declared.entry.Entry.{Entry}
use Rattle.walk_laws.specs.Labelling.{label_row}
use Rattle.walk_laws.proofs.LabelRows.{Rises, Rises-first, Rises-rest}
use Rattle.walk_laws.proofs.Positions.{position-lt}
use Rattle.hub_index.specs.WellFormed.{own_entry, IsWellFormed, IsWellFormedRow}
use Rattle.grid_work.specs.Totals.{distance_sum, entry_count, row_distances}

abbrev pos_of : Entry → ℕ
pos_of e = e.pos

-- so many entries stand before one of a position, from a least position on
before_last : (least : ℕ) (others : List Entry) (last : Entry) → All (λ (e : Entry). least ≤ e.pos) (others ++ last ∷ []) → Rises pos_of (others ++ last ∷ []) → least + length others ≤ last.pos
before_last least [] last from up = omega (arith, from 0 last (omega arith))
before_last least (x ∷ others) last from up =
    omega (arith, from 0 x (omega arith), before_last (x.pos + 1) others last (later x (others ++ last ∷ []) up) (Rises-rest pos_of x (others ++ last ∷ []) up))
  where
    later : (x : Entry) (xs : List Entry) → Rises pos_of (x ∷ xs) → All (λ (e : Entry). x.pos + 1 ≤ e.pos) xs
    later x xs up k d lt = omega (arith, Rises-first pos_of x (get_or xs k d) xs up (Contains-get_or xs k d lt))

-- a row has at most as many entries as there are nodes, and each is below 2^64
module _ (at : List ℕ) (rows : List (List Entry)) (well : IsWellFormed at rows) where
  module _ (v : ℕ) (from_one : 1 ≤ v) (within : v ≤ length at) where
    abbrev row : List Entry
    row = label_row rows v

    is : IsWellFormedRow at v row
    is = well.row v from_one within

    pub row_short : length row ≤ 2 ^ 30
    row_short =
        let up = subst (Rises pos_of) is.ends (AllPairs-from_increasing (map pos_of row) is.rising) in
        let before = before_last 0 is.others (own_entry at v) (λ k d lt. omega arith) up in
        omega (arith, before, ap length is.ends, length-append is.others (own_entry at v ∷ []), position-lt at v well.ranking from_one within, well.small)

    pub row_near : All (λ (e : Entry). e.dist ≤ 2 ^ 64) row
    row_near =
        subst (All (λ (e : Entry). e.dist ≤ 2 ^ 64)) (sym is.ends)
        (All-append (λ (e : Entry). e.dist ≤ 2 ^ 64) is.others (own_entry at v ∷ []) (λ k d lt. omega (arith, (is.far k d lt).1)) (All-cons (λ (e : Entry). e.dist ≤ 2 ^ 64) (own_entry at v) [] (omega arith) (All-nil (λ (e : Entry). e.dist ≤ 2 ^ 64))))

    row_small : row_distances row ≤ 2 ^ 94
    row_small =
        let sum = sum_by-le (λ (e : Entry). e.dist) (2 ^ 64) row row_near in
        omega (arith, sum, row_short)

  -- the row of the next node, as one of the list
  same_row : (p : ℕ) (d : List Entry) → p < length rows → get_or rows p d ≡ label_row rows (p + 1)
  same_row p d lt = let here : p + 1 - 1 ≡ p = omega arith in sym (get_or_default rows p [] d lt) ∙ ap (λ i. get_or rows i []) (sym here)

  entries_fit : entry_count rows ≤ 2 ^ 60
  entries_fit =
      let sum = sum_by-le length (2 ^ 30) rows (λ k d lt. omega (arith, ap length (same_row k d lt), row_short (k + 1) (omega arith) (omega (arith, well.size)))) in
      omega (arith, sum, well.size, well.small)

  distances_fit : distance_sum rows ≤ 2 ^ 124
  distances_fit =
      let sum = sum_by-le row_distances (2 ^ 94) rows (λ k d lt. omega (arith, ap row_distances (same_row k d lt), row_small (k + 1) (omega arith) (omega (arith, well.size)))) in
      omega (arith, sum, well.size, well.small)

  -- what the rows so far come to, and that of one more
  module _ (p : ℕ) (lt : p < length at) where
    in_rows : p < length rows
    in_rows = omega (arith, well.size)

    pub entries_more : sum_by length (take (p + 1) rows) ≡ sum_by length (take p rows) + length (label_row rows (p + 1))
    entries_more = sum_by_more length rows p [] in_rows ∙ ap (λ (r : List Entry). sum_by length (take p rows) + length r) (same_row p [] in_rows)

    pub distances_more : sum_by row_distances (take (p + 1) rows) ≡ sum_by row_distances (take p rows) + row_distances (label_row rows (p + 1))
    distances_more = sum_by_more row_distances rows p [] in_rows ∙ ap (λ (r : List Entry). sum_by row_distances (take p rows) + row_distances r) (same_row p [] in_rows)

    pub entries_room : sum_by length (take p rows) + length (label_row rows (p + 1)) ≤ 2 ^ 60
    entries_room = omega (arith, sum_by_more_le length rows p [] in_rows, ap length (same_row p [] in_rows), entries_fit)

    pub distances_room : sum_by row_distances (take p rows) + row_distances (label_row rows (p + 1)) ≤ 2 ^ 124
    distances_room = omega (arith, sum_by_more_le row_distances rows p [] in_rows, ap row_distances (same_row p [] in_rows), distances_fit)
