-- Rows in two parts: what stands in one of them, and a change of one part.
use Rattle.std.specs.Prelude.{Vec}
use Rattle.std.specs.List.{zip}
use Rattle.std.proofs.Common.{◌≡◌, ℕ, zero, suc, ◌+◌, ◌-◌, ◌<◌, ◌≤◌, List, [], ◌∷◌, ◌++◌, length, map, get_or, set, take, replicate, add-one, refl, sym, ap, subst, ◌∙◌, append_assoc, Global, arith}
use Rattle.std.proofs.Math.Seq.{get_or-append_seam, map-set_same, set-append_seam, take-suc}
use Rattle.std.proofs.lemmas.List.{append-nil, get_or-map, get_or-set_same, length-map, length-take-le, map-append, map-set, set-get_or, set-set, take_all}
use Rattle.std.proofs.lemmas.Slice.Zip.{length-zip, get_or-zip}
use Rattle.walk_laws.specs.declared.entry.Entry.{Entry}
use Rattle.walk_laws.specs.Labelling.{label_row}
use Rattle.hub_index.specs.HubIndex.{with_entry}
use Rattle.hub_index.specs.CompactRows.{widened, row_of_parts, rows_of_parts}
use Rattle.hub_index.specs.declared.compact_row.CompactEntry.{CompactEntry}

-- the rows of compact entries, as lists
abbrev pub compact_lists : List (Vec CompactEntry Global) → List (List CompactEntry)
compact_lists rows = map (λ row. row.items) rows

pub length-rows_of_parts : (compact : List (List CompactEntry)) (full : List (List Entry)) → length compact ≡ length full → length (rows_of_parts compact full) ≡ length full
length-rows_of_parts compact full same =
    let pairs = length-zip compact full in
    length-map (zip compact full) (λ parts. row_of_parts parts.0 parts.1) ∙ omega (arith, pairs, same)

-- a row is that of its parts
pub parts_at : (compact : List (List CompactEntry)) (full : List (List Entry)) (i : ℕ) → length compact ≡ length full → i < length full → get_or (rows_of_parts compact full) i [] ≡ row_of_parts (get_or compact i []) (get_or full i [])
parts_at compact full i same lt =
    let pairs = length-zip compact full in
    get_or-map (λ parts. row_of_parts parts.0 parts.1) (zip compact full) i ([], []) [] (omega (arith, pairs, same, lt))
    ∙ ap (λ parts. row_of_parts parts.0 parts.1) (get_or-zip compact full i ([], []) (omega (arith, same, lt)) lt)

zip-set : {A B : Type 0} (xs : List A) (ys : List B) (i : ℕ) (x : A) (y : B) → zip (set xs i x) (set ys i y) ≡ set (zip xs ys) i (x, y)
zip-set [] ys i x y = refl
zip-set (a ∷ xs) [] zero x y = refl
zip-set (a ∷ xs) [] (suc i) x y = refl
zip-set (a ∷ xs) (b ∷ ys) zero x y = refl
zip-set (a ∷ xs) (b ∷ ys) (suc i) x y = ap (λ ps. (a, b) ∷ ps) (zip-set xs ys i x y)

parts-set : (compact : List (List CompactEntry)) (full : List (List Entry)) (i : ℕ) (n : List CompactEntry) (w : List Entry) → rows_of_parts (set compact i n) (set full i w) ≡ set (rows_of_parts compact full) i (row_of_parts n w)
parts-set compact full i n w =
    ap (map (λ parts. row_of_parts parts.0 parts.1)) (zip-set compact full i n w)
    ∙ map-set (λ parts. row_of_parts parts.0 parts.1) (zip compact full) i (n, w)

-- no row of either part has an entry
pub parts-replicate : (n : ℕ) → rows_of_parts (replicate n []) (replicate n []) ≡ replicate n []
parts-replicate zero = refl
parts-replicate (suc n) = ap (λ rs. [] ∷ rs) (parts-replicate n)

-- one more row of a list is copied, where the rows from its place on are empty
pub copied_next : (list rows more : List (List Entry)) (n k : ℕ) → n ≡ length list → k < n → rows ≡ take k list ++ replicate (n - k) [] → more ≡ set rows k (get_or rows k [] ++ get_or list k []) → more ≡ take (k + 1) list ++ replicate (n - (k + 1)) []
copied_next list rows more n k size lt are more_is =
    let left : n - k ≡ suc (n - (k + 1)) = omega (arith, lt) in
    let rest : replicate {A = List Entry} (n - k) [] ≡ [] ∷ replicate (n - (k + 1)) [] = ap (λ j. replicate j []) left in
    let first : length (take k list) ≡ k = length-take-le k list (omega (arith, size, lt)) in
    let now : rows ≡ take k list ++ [] ∷ replicate (n - (k + 1)) [] = are ∙ ap (λ rs. take k list ++ rs) rest in
    let here : get_or rows k [] ≡ [] = ap (λ rs. get_or rs k []) now ∙ ap (λ i. get_or (take k list ++ [] ∷ replicate (n - (k + 1)) []) i []) (sym first) ∙ get_or-append_seam (take k list) [] (replicate (n - (k + 1)) []) [] in
    more_is
    ∙ ap (λ row. set rows k (row ++ get_or list k [])) here
    ∙ ap (λ rs. set rs k (get_or list k [])) now
    ∙ ap (λ i. set (take k list ++ [] ∷ replicate (n - (k + 1)) []) i (get_or list k [])) (sym first)
    ∙ set-append_seam (take k list) [] (replicate (n - (k + 1)) []) (get_or list k [])
    ∙ sym (append_assoc (take k list) (get_or list k [] ∷ []) (replicate (n - (k + 1)) []))
    ∙ ap (λ rs. rs ++ replicate (n - (k + 1)) []) (sym (rw add-one (take-suc list k [] (omega (arith, size, lt)))))

-- all of them are copied
pub copied_all : (list rows : List (List Entry)) (n k : ℕ) → n ≡ length list → n ≤ k → rows ≡ take k list ++ replicate (n - k) [] → rows ≡ list
copied_all list rows n k size over are =
    let none : n - k ≡ 0 = omega (arith, over) in
    are
    ∙ ap (λ j. take k list ++ replicate j []) none
    ∙ append-nil (take k list)
    ∙ take_all k list (omega (arith, size, over))

-- one more entry of a list stands last in a row
pub put_next : (rows now more : List (List Entry)) (v i : ℕ) (es : List Entry) (d : Entry) → 1 ≤ v → v ≤ length rows → i < length es → now ≡ set rows (v - 1) (label_row rows v ++ take i es) → more ≡ with_entry now v (get_or es i d) → more ≡ set rows (v - 1) (label_row rows v ++ take (i + 1) es)
put_next rows now more v i es d from_one within lt are more_is =
    let row = label_row rows v ++ take i es in
    let e = get_or es i d in
    let here : label_row now v ≡ label_row rows v ++ take i es = ap (λ rs. label_row rs v) are ∙ get_or-set_same rows (v - 1) row [] (omega (arith, from_one, within)) in
    more_is
    ∙ ap (λ r. set now (v - 1) (r ++ e ∷ [])) here
    ∙ ap (λ rs. set rs (v - 1) (row ++ e ∷ [])) are
    ∙ set-set rows (v - 1) row (row ++ e ∷ [])
    ∙ ap (set rows (v - 1)) (append_assoc (label_row rows v) (take i es) (e ∷ []) ∙ ap (λ xs. label_row rows v ++ xs) (sym (rw add-one (take-suc es i d lt))))

-- a node that has a row has one of each part
pub within_parts : (compact : List (Vec CompactEntry Global)) (full rows : List (List Entry)) (v : ℕ) → rows_of_parts (compact_lists compact) full ≡ rows → length compact ≡ length full → v ≤ length rows → v ≤ length full
within_parts compact full rows v is same within =
    let size = length-rows_of_parts (compact_lists compact) full (length-map compact (λ row. row.items) ∙ same) in
    let rows_size = ap length is in
    omega (arith, size, rows_size, within)

-- what is read of both parts is the row
pub row_read : (compact : List (Vec CompactEntry Global)) (full rows : List (List Entry)) (v : ℕ) (row : Vec CompactEntry Global) (es : List CompactEntry) (ws : List Entry) → rows_of_parts (compact_lists compact) full ≡ rows → length compact ≡ length full → 1 ≤ v → v ≤ length rows → row ≡ get_or compact (v - 1) row → es ≡ row.items → ws ≡ label_row full v → row_of_parts es ws ≡ label_row rows v
row_read compact full rows v row es ws is same from_one within at_place compact_is full_is =
    let lt : v - 1 < length full = omega (arith, from_one, within_parts compact full rows v is same within) in
    let lt_compact : v - 1 < length compact = omega (arith, lt, same) in
    let part : es ≡ get_or (compact_lists compact) (v - 1) [] = compact_is ∙ ap (λ (r : Vec CompactEntry Global). r.items) at_place ∙ sym (get_or-map (λ (r : Vec CompactEntry Global). r.items) compact (v - 1) row [] lt_compact) in
    ap (λ n. row_of_parts n ws) part
    ∙ ap (row_of_parts (get_or (compact_lists compact) (v - 1) [])) full_is
    ∙ sym (parts_at (compact_lists compact) full (v - 1) (length-map compact (λ row. row.items) ∙ same) lt)
    ∙ ap (λ rs. label_row rs v) is

-- a row of compact entries gives way to one with the same entries
pub compact_stays : (compact : List (Vec CompactEntry Global)) (full rows : List (List Entry)) (i : ℕ) (old row : Vec CompactEntry Global) → rows_of_parts (compact_lists compact) full ≡ rows → old ≡ get_or compact i old → row.items ≡ old.items → rows_of_parts (compact_lists (set compact i row)) full ≡ rows
compact_stays compact full rows i old row is at_place same =
    ap (λ ns. rows_of_parts ns full) (map-set_same (λ (r : Vec CompactEntry Global). r.items) compact i row old (same ∙ ap (λ (r : Vec CompactEntry Global). r.items) at_place))
    ∙ is

row_gains : (es : List CompactEntry) (e : CompactEntry) (ws : List Entry) → ws ≡ [] → row_of_parts (es ++ e ∷ []) ws ≡ row_of_parts es ws ++ widened e ∷ []
row_gains es e ws none =
    let P : List Entry → Type 0 = λ w. row_of_parts (es ++ e ∷ []) w ≡ row_of_parts es w ++ widened e ∷ [] in
    let empty : P [] = append-nil (map (λ x. widened x) (es ++ e ∷ [])) ∙ map-append (λ x. widened x) es (e ∷ []) ∙ ap (λ xs. xs ++ widened e ∷ []) (sym (append-nil (map (λ x. widened x) es))) in
    subst P (sym none) empty

-- and to one that gains an entry, where the node has no full one
pub compact_gains : (compact : List (Vec CompactEntry Global)) (full rows : List (List Entry)) (v : ℕ) (old row : Vec CompactEntry Global) (e : CompactEntry) → rows_of_parts (compact_lists compact) full ≡ rows → length compact ≡ length full → 1 ≤ v → v ≤ length rows → old ≡ get_or compact (v - 1) old → row.items ≡ old.items ++ e ∷ [] → label_row full v ≡ [] → rows_of_parts (compact_lists (set compact (v - 1) row)) full ≡ with_entry rows v (widened e)
compact_gains compact full rows v old row e is same from_one within at_place gains none =
    let ws = label_row full v in
    let before = row_read compact full rows v old old.items ws is same from_one within at_place refl refl in
    ap (λ ns. rows_of_parts ns full) (map-set (λ (r : Vec CompactEntry Global). r.items) compact (v - 1) row)
    ∙ ap (rows_of_parts (set (compact_lists compact) (v - 1) row.items)) (sym (set-get_or full (v - 1) []))
    ∙ parts-set (compact_lists compact) full (v - 1) row.items ws
    ∙ ap (λ rs. set rs (v - 1) (row_of_parts row.items ws)) is
    ∙ ap (set rows (v - 1)) (ap (λ n. row_of_parts n ws) gains ∙ row_gains old.items e ws none ∙ ap (λ row. row ++ widened e ∷ []) before)

-- a row of full entries gains one
pub full_gains : (compact : List (Vec CompactEntry Global)) (full rows fullr : List (List Entry)) (v : ℕ) (e : Entry) → rows_of_parts (compact_lists compact) full ≡ rows → length compact ≡ length full → 1 ≤ v → v ≤ length rows → fullr ≡ with_entry full v e → rows_of_parts (compact_lists compact) fullr ≡ with_entry rows v e
full_gains compact full rows fullr v e is same from_one within gains =
    let lt : v - 1 < length full = omega (arith, from_one, within_parts compact full rows v is same within) in
    let n = get_or (compact_lists compact) (v - 1) [] in
    let ws = label_row full v in
    let before : row_of_parts n ws ≡ label_row rows v = sym (parts_at (compact_lists compact) full (v - 1) (length-map compact (λ row. row.items) ∙ same) lt) ∙ ap (λ rs. label_row rs v) is in
    ap (rows_of_parts (compact_lists compact)) gains
    ∙ ap (λ ns. rows_of_parts ns (with_entry full v e)) (sym (set-get_or (compact_lists compact) (v - 1) []))
    ∙ parts-set (compact_lists compact) full (v - 1) n (ws ++ e ∷ [])
    ∙ ap (λ rs. set rs (v - 1) (row_of_parts n (ws ++ e ∷ []))) is
    ∙ ap (set rows (v - 1)) (sym (append_assoc (map (λ x. widened x) n) ws (e ∷ [])) ∙ ap (λ row. row ++ e ∷ []) before)

-- two parts become a row
pub both_put : (compact : List (Vec CompactEntry Global)) (full rows fullr : List (List Entry)) (i : ℕ) (row : Vec CompactEntry Global) (entries : List Entry) → rows_of_parts (compact_lists compact) full ≡ rows → fullr ≡ set full i entries → rows_of_parts (compact_lists (set compact i row)) fullr ≡ set rows i (row_of_parts row.items entries)
both_put compact full rows fullr i row entries is fullr_is =
    ap (rows_of_parts (compact_lists (set compact i row))) fullr_is
    ∙ ap (λ ns. rows_of_parts ns (set full i entries)) (map-set (λ (r : Vec CompactEntry Global). r.items) compact i row)
    ∙ parts-set (compact_lists compact) full i row.items entries
    ∙ ap (λ rs. set rs i (row_of_parts row.items entries)) is
