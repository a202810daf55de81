-- The bytes of entries and of rows, with vias or without, once there is one more.
use Rattle.std.proofs.Common.{◌≡◌, ℕ, Bool, true, false, Option, Some, None, is_some, List, [], ◌∷◌, ◌++◌, length, zip, refl, sym, ap, ◌∙◌, append_assoc, arith}
use Rattle.std.specs.Prelude.{flat_map}
use Rattle.std.proofs.lemmas.Grind.{flat_map-append}
use Rattle.std.proofs.lemmas.List.{append-nil}
use Rattle.walk_laws.specs.declared.entry.Entry.{Entry}
use Rattle.index_file.specs.Layout.{word, entry_bytes, traced_entry_bytes, entries_bytes, row_bytes, traced_row_bytes, rows_bytes, head_bytes, stored_bytes, version_of}
use Rattle.index_file.specs.Parts.{no_vias, more_vias}
use Rattle.index_file.specs.Sound.{HaveTheirVias, version_for}

pub flat_map_push : {X : Type 0} (f : X → List ℕ) (xs : List X) (x : X) → flat_map f (xs ++ x ∷ []) ≡ flat_map f xs ++ f x
flat_map_push f xs x = flat_map-append f xs (x ∷ []) ∙ ap (λ t. flat_map f xs ++ t) (append-nil (f x))

pub zip-push : {A B : Type 0} (xs : List A) (ys : List B) (x : A) (y : B) → length xs ≡ length ys → zip (xs ++ x ∷ []) (ys ++ y ∷ []) ≡ zip xs ys ++ (x, y) ∷ []
zip-push [] [] x y same = refl
zip-push [] (b ∷ ys) x y same = absurd (omega arith)
zip-push (a ∷ xs) [] x y same = absurd (omega arith)
zip-push (a ∷ xs) (b ∷ ys) x y same = ap (λ t. (a, b) ∷ t) (zip-push xs ys x y (omega arith))

-- ---- entries

-- without vias
pub entries-push : (all : Option (List (List ℕ))) (es : List Entry) (vias : List ℕ) (e : Entry) → is_some all ≡ false → entries_bytes all (es ++ e ∷ []) vias ≡ entries_bytes all es vias ++ entry_bytes e
entries-push None es vias e none = flat_map_push entry_bytes es e
entries-push (Some all) es vias e none = absurd cc

-- with them
pub traced_entries-push : (all : Option (List (List ℕ))) (es : List Entry) (vias : List ℕ) (e : Entry) (y : ℕ) → is_some all ≡ true → length vias ≡ length es → entries_bytes all (es ++ e ∷ []) (vias ++ y ∷ []) ≡ entries_bytes all es vias ++ (entry_bytes e ++ word y)
traced_entries-push None es vias e y some same = absurd cc
traced_entries-push (Some all) es vias e y some same = ap (flat_map traced_entry_bytes) (zip-push es vias e y (sym same)) ∙ flat_map_push traced_entry_bytes (zip es vias) (e, y)

-- no entry
pub entries-none : (all : Option (List (List ℕ))) → entries_bytes all [] [] ≡ []
entries-none None = refl
entries-none (Some all) = refl

-- ---- rows

module _ (n : ℕ) (rows : List (List Entry)) (row : List Entry) (vias : List ℕ) where
  rows-push : (all : Option (List (List ℕ))) → HaveTheirVias n rows all → rows_bytes (rows ++ row ∷ []) (more_vias all vias) ≡ rows_bytes rows all ++ (word (length row) ++ entries_bytes all row vias)
  rows-push None have = flat_map_push row_bytes rows row
  rows-push (Some all) have = ap (flat_map traced_row_bytes) (zip-push rows all row vias (sym have.size)) ∙ flat_map_push traced_row_bytes (zip rows all) (row, vias)

  version-more : (all : Option (List (List ℕ))) → version_of (more_vias all vias) ≡ version_of all
  version-more None = refl
  version-more (Some all) = refl

  pub stored_bytes-row : (order : List ℕ) (all : Option (List (List ℕ))) → HaveTheirVias n rows all → stored_bytes order (rows ++ row ∷ []) (more_vias all vias) ≡ stored_bytes order rows all ++ (word (length row) ++ entries_bytes all row vias)
  stored_bytes-row order all have =
      ap (λ k. head_bytes k (length order) ++ (flat_map word order ++ rows_bytes (rows ++ row ∷ []) (more_vias all vias))) (version-more all)
      ∙ ap (λ t. head_bytes (version_of all) (length order) ++ (flat_map word order ++ t)) (rows-push all have)
      ∙ regroup (head_bytes (version_of all) (length order)) (flat_map word order) (rows_bytes rows all) (word (length row) ++ entries_bytes all row vias)
    where
      regroup : (a b c d : List ℕ) → a ++ (b ++ (c ++ d)) ≡ (a ++ (b ++ c)) ++ d
      regroup a b c d = simp append_assoc

-- no row
pub version-none : (traced : Bool) → version_of (no_vias traced) ≡ version_for traced
version-none true = refl
version-none false = refl

pub rows-none : (traced : Bool) → rows_bytes [] (no_vias traced) ≡ []
rows-none true = refl
rows-none false = refl
