-- How many bytes a layout has.
use Rattle.std.proofs.Common.{◌≡◌, ◌≢◌, ℕ, zero, suc, ◌+◌, ◌-◌, ◌*◌, ◌^◌, ◌<◌, ◌≤◌, List, [], ◌∷◌, ◌++◌, length, map, zip, get_or, Option, Some, None, refl, sym, ap, subst, ◌∙◌, append_assoc, arith}
use Rattle.std.specs.Prelude.{flat_map}
use Rattle.std.proofs.lemmas.List.{length-append, get_or_default}
use Rattle.std.proofs.lemmas.List.Kept.{AllPairs-from_increasing}
use Rattle.std.proofs.lemmas.List.Sums.{sum_by-le, sum_by-cons}
use Rattle.byteorder.specs.Endian.{big_bytes}
use Rattle.walk_laws.specs.declared.entry.Entry.{Entry}
use Rattle.walk_laws.specs.Ranking.{position_of}
use Rattle.walk_laws.specs.Labelling.{label_row}
use Rattle.walk_laws.proofs.LabelRows.{Rises}
use Rattle.walk_laws.proofs.Positions.{position-lt, get_or-position}
use Rattle.entry_vias.specs.RowVias.{HaveVias}
use Rattle.hub_index.specs.WellFormed.{own_entry, IsWellFormedRow, IsWellFormed}
use Rattle.index_file.specs.declared.next.Next.{Next}
use Rattle.index_file.specs.declared.next.Next.TheVariants.{Letter, Version, Size, Node, Count, Position, Distance, Via, End}
use Rattle.index_file.specs.Layout.{word, entry_bytes, traced_entry_bytes, entries_bytes, row_bytes, traced_row_bytes, rows_bytes, head_bytes, index_bytes, via_bytes, stored_bytes, version_of, entry_count}
use Rattle.index_file.specs.Parts.{ReadRows, Part, least_after, next_node, next_own}
use Rattle.index_file.specs.Judging.{Reached, width}
use Rattle.index_file.specs.Sound.{AreRows, IsPart, AreReading, IsSoundNext, IsSound, done_bytes, part_bytes, version_for, bytes_before}
use Rattle.index_file.proofs.Rising.{pos_of, least_after-push, least_after-prefix, length-le-least}

length-words : (xs : List ℕ) → length (flat_map word xs) ≡ 4 * length xs
length-words [] = refl
length-words (x ∷ xs) = omega (arith, length-append (word x) (flat_map word xs), length-words xs)

pub length-entries : (es : List Entry) → length (flat_map entry_bytes es) ≡ 12 * length es
length-entries [] = refl
length-entries (e ∷ es) = omega (arith, length-append (entry_bytes e) (flat_map entry_bytes es), length-entries es)

length-row : (row : List Entry) → length (row_bytes row) ≡ 4 + 12 * length row
length-row row = omega (arith, length-append (word (length row)) (flat_map entry_bytes row), length-entries row)

length-rows : (rows : List (List Entry)) → length (flat_map row_bytes rows) ≡ 4 * length rows + 12 * entry_count rows
length-rows [] = refl
length-rows (row ∷ rows) = let more : entry_count (row ∷ rows) ≡ length row + entry_count rows = sum_by-cons length row rows in omega (arith, more, length-append (row_bytes row) (flat_map row_bytes rows), length-row row, length-rows rows)

-- the size of any rows under any order
pub length-index_bytes : (at : List ℕ) (rows : List (List Entry)) → length (index_bytes at rows) ≡ 12 + 4 * length at + 4 * length rows + 12 * entry_count rows
length-index_bytes at rows =
    omega (arith, length-append (head_bytes 1 (length at)) (flat_map word at ++ flat_map row_bytes rows), length-append (flat_map word at) (flat_map row_bytes rows), length-words at, length-rows rows)

-- ---- with vias

length-traced_entries : (es : List Entry) (vias : List ℕ) → length vias ≡ length es → length (flat_map traced_entry_bytes (zip es vias)) ≡ 16 * length es
length-traced_entries [] vias same = refl
length-traced_entries (e ∷ es) [] same = absurd (omega arith)
length-traced_entries (e ∷ es) (y ∷ vias) same = omega (arith, length-append (traced_entry_bytes (e, y)) (flat_map traced_entry_bytes (zip es vias)), length-traced_entries es vias (omega arith))

-- each row has as many vias as entries
abbrev pub AreAsMany : List (List Entry) → List (List ℕ) → Type 0
AreAsMany rows vias = (k : ℕ) → k < length rows → length (get_or vias k []) ≡ length (get_or rows k [])

length-traced_rows : (rows : List (List Entry)) (vias : List (List ℕ)) → length vias ≡ length rows → AreAsMany rows vias → length (flat_map traced_row_bytes (zip rows vias)) ≡ 4 * length rows + 16 * entry_count rows
length-traced_rows [] vias same each = refl
length-traced_rows (row ∷ rows) [] same each = absurd (omega arith)
length-traced_rows (row ∷ rows) (ys ∷ vias) same each =
    let more : entry_count (row ∷ rows) ≡ length row + entry_count rows = sum_by-cons length row rows in
    omega (arith, more, length-append (traced_row_bytes (row, ys)) (flat_map traced_row_bytes (zip rows vias)), length-append (word (length row)) (flat_map traced_entry_bytes (zip row ys)), length-traced_entries row ys (each 0 (omega arith)), length-traced_rows rows vias (omega arith) (λ k within. each (suc k) (omega arith)))

pub length-via_bytes : (at : List ℕ) (rows : List (List Entry)) (vias : List (List ℕ)) → HaveVias rows vias → length (via_bytes at rows vias) ≡ 12 + 4 * length at + 4 * length rows + 16 * entry_count rows
length-via_bytes at rows vias have =
    omega (arith, length-append (head_bytes 2 (length at)) (flat_map word at ++ flat_map traced_row_bytes (zip rows vias)), length-append (flat_map word at) (flat_map traced_row_bytes (zip rows vias)), length-words at, length-traced_rows rows vias have.size as_many)
  where
    as_many : AreAsMany rows vias
    as_many k within =
        let row = have.row (k + 1) (omega arith) (omega arith) in
        let here : k + 1 - 1 ≡ k = omega arith in
        ap (λ i. length (get_or vias i [])) (sym here) ∙ row.size ∙ ap (λ i. length (get_or rows i [])) here

-- ---- at most 16 bytes an entry

traced_entries-le : (es : List Entry) (vias : List ℕ) → length (flat_map traced_entry_bytes (zip es vias)) ≤ 16 * length es
traced_entries-le [] vias = omega arith
traced_entries-le (e ∷ es) [] = omega arith
traced_entries-le (e ∷ es) (y ∷ vias) = omega (arith, length-append (traced_entry_bytes (e, y)) (flat_map traced_entry_bytes (zip es vias)), traced_entries-le es vias)

traced_rows-le : (rows : List (List Entry)) (vias : List (List ℕ)) → length (flat_map traced_row_bytes (zip rows vias)) ≤ 4 * length rows + 16 * entry_count rows
traced_rows-le [] vias = omega arith
traced_rows-le (row ∷ rows) [] = omega arith
traced_rows-le (row ∷ rows) (ys ∷ vias) =
    let more : entry_count (row ∷ rows) ≡ length row + entry_count rows = sum_by-cons length row rows in
    omega (arith, more, length-append (traced_row_bytes (row, ys)) (flat_map traced_row_bytes (zip rows vias)), length-append (word (length row)) (flat_map traced_entry_bytes (zip row ys)), traced_entries-le row ys, traced_rows-le rows vias)

entries-le : (all : Option (List (List ℕ))) (es : List Entry) (vias : List ℕ) → length (entries_bytes all es vias) ≤ 16 * length es
entries-le None es vias = omega (arith, length-entries es)
entries-le (Some all) es vias = traced_entries-le es vias

all_rows-le : (rows : List (List Entry)) (all : Option (List (List ℕ))) → length (rows_bytes rows all) ≤ 4 * length rows + 16 * entry_count rows
all_rows-le rows None = omega (arith, length-rows rows)
all_rows-le rows (Some vias) = traced_rows-le rows vias

stored-le : (at : List ℕ) (rows : List (List Entry)) (all : Option (List (List ℕ))) → length (stored_bytes at rows all) ≤ 12 + 4 * length at + 4 * length rows + 16 * entry_count rows
stored-le at rows all =
    omega (arith, length-append (head_bytes (version_of all) (length at)) (flat_map word at ++ rows_bytes rows all), length-append (flat_map word at) (rows_bytes rows all), length-words at, all_rows-le rows all)

-- ---- rows aren't long

-- a well formed row has at most as many entries as there are nodes
pub length-well_formed : (at : List ℕ) (v : ℕ) (row : List Entry) → IsWellFormedRow at v row → length row ≤ position_of at v + 1
length-well_formed at v row is =
    let up : Rises pos_of row = AllPairs-from_increasing (map pos_of row) is.rising in
    let whole : Rises pos_of (is.others ++ own_entry at v ∷ []) = subst (Rises pos_of) is.ends up in
    let greatest : least_after row ≡ position_of at v + 1 = ap least_after is.ends ∙ least_after-push is.others (own_entry at v) (least_after-prefix is.others (own_entry at v) [] whole) in
    omega (arith, length-le-least row up, greatest)

-- lists of which but one at most are shorter than 2^30
all_but_one : (rows : List (List Entry)) (w : ℕ) → ((k : ℕ) → k < length rows → length (get_or rows k []) ≤ 2 ^ 30) → ((k : ℕ) → k < length rows → k ≢ w → length (get_or rows k []) ≤ 2 ^ 30 - 1) → entry_count rows ≤ length rows * (2 ^ 30 - 1) + 1
all_but_one [] w most other = omega arith
all_but_one (row ∷ rows) zero most other =
    let more : entry_count (row ∷ rows) ≡ length row + entry_count rows = sum_by-cons length row rows in
    let rest : entry_count rows ≤ length rows * (2 ^ 30 - 1) = sum_by-le length (2 ^ 30 - 1) rows (λ k d within. omega (arith, other (suc k) (omega arith) (λ same. omega arith), ap length (get_or_default rows k [] d within))) in
    omega (arith, more, rest, most 0 (omega arith))
all_but_one (row ∷ rows) (suc w) most other =
    let more : entry_count (row ∷ rows) ≡ length row + entry_count rows = sum_by-cons length row rows in
    let rest = all_but_one rows w (λ k within. most (suc k) (omega arith)) (λ k within apart. other (suc k) (omega arith) (λ same. apart (omega arith))) in
    omega (arith, more, rest, other 0 (omega arith) (λ same. omega arith))

-- rows that are done have less than 2^30 entries each, but for that of one node at most, which has the last position
pub entry_count-le : (done : ReadRows) → AreRows done → entry_count done.rows ≤ length done.rows * (2 ^ 30 - 1) + 1
entry_count-le done is = all_but_one done.rows (last - 1) (λ k within. omega (arith, short k within, below k within, is.small)) (λ k within apart. omega (arith, short k within, below k within, is.small, not_last k within apart))
  where
    last : ℕ
    last = get_or done.order (2 ^ 30 - 1) 0

    here : (k : ℕ) → label_row done.rows (k + 1) ≡ get_or done.rows k []
    here k = let same : k + 1 - 1 ≡ k = omega arith in ap (λ i. get_or done.rows i []) same

    short : (k : ℕ) → k < length done.rows → length (get_or done.rows k []) ≤ position_of done.order (k + 1) + 1
    short k within = omega (arith, length-well_formed done.order (k + 1) (label_row done.rows (k + 1)) (is.row (k + 1) (omega arith) (omega arith)), ap length (here k))

    below : (k : ℕ) → k < length done.rows → position_of done.order (k + 1) < length done.order
    below k within = position-lt done.order (k + 1) is.ranking (omega arith) (omega (arith, is.size))

    not_last : (k : ℕ) → k < length done.rows → k ≢ last - 1 → position_of done.order (k + 1) ≢ 2 ^ 30 - 1
    not_last k within apart same =
        let node : get_or done.order (position_of done.order (k + 1)) 0 ≡ k + 1 = get_or-position done.order (k + 1) 0 (below k within) in
        let that : last ≡ k + 1 = ap (λ p. get_or done.order p 0) (sym same) ∙ node in
        apart (omega (arith, that))

pub length-part : (own : ℕ) (part : Part) → IsPart own part → length part.entries ≤ own
length-part own part is = omega (arith, length-le-least part.entries (AllPairs-from_increasing (map pos_of part.entries) is.rising), is.below)

-- ---- offsets

reading-le : (done : ReadRows) (part : Part) → AreReading done part → length (done_bytes done ++ (word part.count ++ part_bytes done part)) + 2 ^ 31 ≤ 2 ^ 64
reading-le done part is =
    let own = position-lt done.order (next_node done) is.rows.ranking (omega arith) (omega (arith, is.more)) in
    omega (arith, length-append (done_bytes done) (word part.count ++ part_bytes done part), length-append (word part.count) (part_bytes done part), stored-le done.order done.rows done.vias, entries-le done.vias part.entries part.vias, entry_count-le done is.rows, length-part (next_own done) part is.entries, own, is.rows.small, is.more)

rows-le : (done : ReadRows) → AreRows done → length (done_bytes done) + 2 ^ 31 ≤ 2 ^ 64
rows-le done is = omega (arith, stored-le done.order done.rows done.vias, entry_count-le done is, is.small, is.size)

regroup : (a b c d : List ℕ) → a ++ (b ++ (c ++ d)) ≡ (a ++ (b ++ c)) ++ d
regroup a b c d = simp append_assoc

-- and so are up to twelve bytes more
longer-le : (done : ReadRows) (part : Part) (more : List ℕ) (at : ℕ) → AreReading done part → length more ≤ 12 → at ≡ length (done_bytes done ++ (word part.count ++ (part_bytes done part ++ more))) → at + 2 ^ 30 ≤ 2 ^ 64
longer-le done part more at is few offset =
    omega (arith, offset, ap length (regroup (done_bytes done) (word part.count) (part_bytes done part) more), length-append (done_bytes done ++ (word part.count ++ part_bytes done part)) more, reading-le done part is, few)

fields-le : (at : ℕ) (next : Next) → IsSoundNext at next → at ≡ length (bytes_before at next) → at + 2 ^ 30 ≤ 2 ^ 64
fields-le at Letter is offset = omega (arith, is)
fields-le at Version is offset = omega (arith, offset)
fields-le at (Size traced) is offset = omega (arith, offset)
fields-le at (Node names) is offset = omega (arith, offset, length-append (head_bytes (version_for names.traced) names.n) (flat_map word names.order), length-words names.order, is.0.small, is.0.size)
fields-le at (Count done) is offset = omega (arith, offset, rows-le done is.0)
fields-le at (Position done part) is offset = omega (arith, offset, reading-le done part is)
fields-le at (Distance done part pos) is offset = longer-le done part (word pos) at is.0 (omega arith) offset
fields-le at (Via done part e) is offset = longer-le done part (word e.pos ++ big_bytes 8 e.dist) at is.0 (omega arith) offset
fields-le at (End done) is offset = omega (arith, offset, rows-le done is.0)

-- no offset is large
pub offset-le : (p : Reached) → IsSound p → p.at + 2 ^ 30 ≤ 2 ^ 64
offset-le p is = fields-le p.at p.next is.fields is.offset

-- and no field is long
pub width-le : (next : Next) → width next ≤ 8
width-le Letter = omega arith
width-le Version = omega arith
width-le (Size traced) = omega arith
width-le (Node names) = omega arith
width-le (Count done) = omega arith
width-le (Position done part) = omega arith
width-le (Distance done part pos) = omega arith
width-le (Via done part e) = omega arith
width-le (End done) = omega arith

-- a row of an index has at most 2^30 entries
pub length-row_of : (at : List ℕ) (rows : List (List Entry)) (v : ℕ) (row : List Entry) → IsWellFormed at rows → 1 ≤ v → v ≤ length at → row ≡ label_row rows v → length row ≤ 2 ^ 30
length-row_of at rows v row is from_one within same =
    omega (arith, ap length same, length-well_formed at v (label_row rows v) (is.row v from_one within), position-lt at v is.ranking from_one within, is.small)
