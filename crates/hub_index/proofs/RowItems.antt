-- Rows of entries, as lists, and one more entry in one of them.
use Rattle.std.specs.Prelude.{Vec}
use Rattle.std.proofs.Common.{◌≡◌, ℕ, ◌<◌, List, [], ◌∷◌, ◌++◌, length, map, get_or, set, sym, ap, ◌∙◌, Global}
use Rattle.std.proofs.lemmas.List.{map-set, get_or-map, set-get_or}
use Rattle.std.proofs.Math.Seq.{map-set_same}
use Rattle.walk_laws.specs.declared.entry.Entry.{Entry}

abbrev pub items_of : List (Vec Entry Global) → List (List Entry)
items_of rows = map (λ row. row.items) rows

-- what a row has is what stands at its place
pub items_of-at : (rows : List (Vec Entry Global)) (i : ℕ) (row : Vec Entry Global) → i < length rows → row ≡ get_or rows i row → row.items ≡ get_or (items_of rows) i []
items_of-at rows i row within is = ap (λ (r : Vec Entry Global). r.items) is ∙ sym (get_or-map (λ (r : Vec Entry Global). r.items) rows i row [] within)

-- a row gives way to one that has gained an entry
pub items_of-gain : (rows : List (Vec Entry Global)) (i : ℕ) (old row : Vec Entry Global) (e : Entry) → i < length rows → old ≡ get_or rows i old → row.items ≡ old.items ++ e ∷ [] → items_of (set rows i row) ≡ set (items_of rows) i (get_or (items_of rows) i [] ++ e ∷ [])
items_of-gain rows i old row e within is gains =
    map-set (λ (r : Vec Entry Global). r.items) rows i row
    ∙ ap (set (items_of rows) i) (gains ∙ ap (λ es. es ++ e ∷ []) (items_of-at rows i old within is))

-- and to one with the same entries
pub items_of-same : (rows : List (Vec Entry Global)) (i : ℕ) (old row : Vec Entry Global) → old ≡ get_or rows i old → row.items ≡ old.items → items_of (set rows i row) ≡ items_of rows
items_of-same rows i old row is same =
    map-set_same (λ (r : Vec Entry Global). r.items) rows i row old (same ∙ ap (λ (r : Vec Entry Global). r.items) is)

-- an empty row gives way to an empty one
pub empty_put : (rows : List (List Entry)) (i : ℕ) (row : List Entry) → row ≡ [] → get_or rows i [] ≡ [] → rows ≡ set rows i row
empty_put rows i row none was = sym (ap (set rows i) (none ∙ sym was) ∙ set-get_or rows i [])
