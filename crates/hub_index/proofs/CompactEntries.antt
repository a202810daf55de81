-- Entries in half the room, as a loop comes past them, and the row that they begin.
use Rattle.std.proofs.Common.{◌≡◌, ℕ, ◌+◌, ◌<◌, ◌≤◌, List, [], ◌∷◌, ◌++◌, Option, Some, None, All, Contains, length, map, get_or, take, sym, ap, subst, ◌∙◌, add-one, append_assoc, arith}
use Rattle.std.specs.Prelude.{slice_get, IfNone}
use Rattle.std.proofs.Math.Seq.{take-suc}
use Rattle.std.proofs.lemmas.List.{get_or-map, length-map, map-append, take_all}
use Rattle.std.proofs.lemmas.List.Elements.{All-append, All-contains, All-map, Contains-get_or, Contains-append_left, Contains-append_right}
use Rattle.walk_laws.specs.declared.entry.Entry.{Entry}
use Rattle.std.proofs.lemmas.Option.{get_or_from_slice_get, slice_get_within}
use Rattle.hub_index.specs.CompactRows.{widened}
use Rattle.hub_index.specs.declared.compact_row.CompactEntry.{CompactEntry}

-- the entries that they are
abbrev pub all_widened : List CompactEntry → List Entry
all_widened es = map (λ e. widened e) es

-- one more of them
pub widened_next : (es : List CompactEntry) (i : ℕ) (d : CompactEntry) → i < length es → all_widened (take (i + 1) es) ≡ all_widened (take i es) ++ widened (get_or es i d) ∷ []
widened_next es i d lt =
    let cut : take (i + 1) es ≡ take i es ++ get_or es i d ∷ [] = rw add-one (take-suc es i d lt) in
    ap all_widened cut ∙ map-append (λ e. widened e) (take i es) (get_or es i d ∷ [])

-- all of them
pub widened_whole : (es : List CompactEntry) (i : ℕ) → length es ≤ i → all_widened (take i es) ≡ all_widened es
widened_whole es i over = ap all_widened (take_all i es over)

pub Contains-widened : (es : List CompactEntry) (i : ℕ) (d : CompactEntry) → i < length es → Contains (all_widened es) (widened (get_or es i d))
Contains-widened es i d lt =
    subst (λ x. Contains (all_widened es) x) (get_or-map (λ e. widened e) es i d (widened d) lt)
    (Contains-get_or (all_widened es) i (widened d) (omega (arith, lt, length-map es (λ e. widened e))))

-- what holds of the entries of both widths holds of each entry of the row
pub each_of_both : (P : Entry → Type 0) (compact : List CompactEntry) (full : List Entry) → All (λ e. P (widened e)) compact → All P full → (e : Entry) → Contains (all_widened compact ++ full) e → P e
each_of_both P compact full compact_all full_all e there =
    All-contains P (all_widened compact ++ full) e (All-append P (all_widened compact) full (All-map P (λ x. widened x) compact compact_all) full_all) there

pub Contains-in_row : (prefix row : List Entry) (k : ℕ) (e : Entry) → slice_get row k ≡ Some e → Contains (prefix ++ row) e
Contains-in_row prefix row k e is = Contains-append_right prefix row e (k, slice_get_within row k e is, get_or_from_slice_get row k e e is)

pub none_then : {X : Type 0} (o : Option X) (P Q : Type 0) → (P → Q) → IfNone o P → IfNone o Q
none_then None P Q f p = f p
none_then (Some x) P Q f p = tt

-- each position of the row is one of the table, so that of an entry that a loop has come to is, too
pub compact_within : (n : ℕ) (compact : List CompactEntry) (full : List Entry) → All (λ e. e.pos < n) (all_widened compact ++ full) → (i : ℕ) (d : CompactEntry) → i < length compact → (widened (get_or compact i d)).pos < n
compact_within n compact full all i d lt =
    All-contains (λ e. e.pos < n) (all_widened compact ++ full) (widened (get_or compact i d)) all (Contains-append_left (all_widened compact) full (widened (get_or compact i d)) (Contains-widened compact i d lt))

pub full_within : (n : ℕ) (prefix full : List Entry) → All (λ e. e.pos < n) (prefix ++ full) → (i : ℕ) (d : Entry) → i < length full → (get_or full i d).pos < n
full_within n prefix full all i d lt =
    All-contains (λ e. e.pos < n) (prefix ++ full) (get_or full i d) all (Contains-append_right prefix full (get_or full i d) (Contains-get_or full i d lt))

-- after a list, one more of a row
pub after_next : (prefix row : List Entry) (i : ℕ) (d : Entry) → i < length row → (prefix ++ take i row) ++ get_or row i d ∷ [] ≡ prefix ++ take (i + 1) row
after_next prefix row i d lt =
    let cut : take (i + 1) row ≡ take i row ++ get_or row i d ∷ [] = rw add-one (take-suc row i d lt) in
    append_assoc prefix (take i row) (get_or row i d ∷ []) ∙ ap (λ es. prefix ++ es) (sym cut)
