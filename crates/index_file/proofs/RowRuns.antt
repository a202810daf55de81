-- The bytes of rows, run by run, with their vias or without.
use Rattle.std.proofs.Common.{◌≡◌, ◌∙◌, ℕ, ◌+◌, ◌-◌, ◌<◌, ◌≤◌, Option, Some, None, IfSome, List, [], ◌∷◌, ◌++◌, Vec, Global, length, take, drop, zip, get_or, sym, ap, ap₂, arith}
use Rattle.std.specs.Prelude.{flat_map}
use Rattle.std.proofs.Math.Seq.{take-add}
use Rattle.std.proofs.lemmas.Grind.{flat_map-append}
use Rattle.std.proofs.lemmas.List.{append-nil, append_assoc, drop-drop, get_or-drop, length-drop, take_more, take_all}
use Rattle.std.proofs.lemmas.Slice.Zip.{length-zip, get_or-zip}
use Rattle.walk_laws.specs.declared.entry.Entry.{Entry}
use Rattle.entry_vias.specs.RowVias.{HaveVias}
use Rattle.index_file.specs.Layout.{word, head_bytes, before_rows, version_of, row_bytes, traced_row_bytes, rows_bytes, node_bytes, run_bytes, stored_bytes}

-- the bytes of a piece
abbrev pub bytes_of : Vec ℕ Global → List ℕ
bytes_of piece = piece.items

-- ---- runs of any list

module _ {X : Type 0} (f : X → List ℕ) (xs : List X) where
  -- what the elements after `from` up to `to` give
  abbrev run : ℕ → ℕ → List ℕ
  run from to = flat_map f (take (to - from) (drop from xs))

  -- one more
  more : (from p : ℕ) (d : X) → from ≤ p → p < length xs → run from (p + 1) ≡ run from p ++ f (get_or xs p d)
  more from p d rising within =
      let size : p + 1 - from ≡ p - from + 1 = omega (arith, rising) in
      let here : from + (p - from) ≡ p = omega (arith, rising) in
      let left : p - from < length (drop from xs) = omega (arith, rising, within, length-drop from xs) in
      let row : get_or (drop from xs) (p - from) d ≡ get_or xs p d = get_or-drop from xs (p - from) d ∙ ap (λ k. get_or xs k d) here in
      ap (λ k. flat_map f (take k (drop from xs))) size
      ∙ ap (flat_map f) (take_more (drop from xs) (p - from) d left)
      ∙ flat_map-append f (take (p - from) (drop from xs)) (get_or (drop from xs) (p - from) d ∷ [])
      ∙ ap (λ t. run from p ++ t) (append-nil (f (get_or (drop from xs) (p - from) d)) ∙ ap f row)

  -- a run, and the run after it
  both : (from mid to : ℕ) → from ≤ mid → mid ≤ to → run from mid ++ run mid to ≡ run from to
  both from mid to rising rises =
      let size : mid - from + (to - mid) ≡ to - from = omega (arith, rising, rises) in
      let here : from + (mid - from) ≡ mid = omega (arith, rising) in
      let rest : drop (mid - from) (drop from xs) ≡ drop mid xs = drop-drop (mid - from) from xs ∙ ap (λ k. drop k xs) here in
      sym (flat_map-append f (take (mid - from) (drop from xs)) (take (to - mid) (drop mid xs)))
      ∙ ap (flat_map f) (ap (λ ys. take (mid - from) (drop from xs) ++ take (to - mid) ys) (sym rest)
      ∙ sym (take-add (mid - from) (to - mid) (drop from xs)) ∙ ap (λ k. take k (drop from xs)) size)

-- ---- runs of rows

module _ (rows : List (List Entry)) where
  -- a row more
  pub run-more : (all : Option (List (List ℕ))) (from p : ℕ) → IfSome all (HaveVias rows) → from ≤ p → p < length rows → run_bytes rows all from (p + 1) ≡ run_bytes rows all from p ++ node_bytes rows all (p + 1)
  run-more None from p have rising within =
      let here : p ≡ p + 1 - 1 = omega arith in
      more row_bytes rows from p [] rising within ∙ ap (λ k. run_bytes rows None from p ++ row_bytes (get_or rows k [])) here
  run-more (Some vias) from p have rising within =
      let here : p ≡ p + 1 - 1 = omega arith in
      let inside : p < length vias = omega (arith, have.size, within) in
      let pair = get_or-zip rows vias p ([], []) within inside in
      more traced_row_bytes (zip rows vias) from p ([], []) rising (omega (arith, length-zip rows vias, within, inside))
      ∙ ap (λ r. run_bytes rows (Some vias) from p ++ traced_row_bytes r) pair
      ∙ ap (λ k. run_bytes rows (Some vias) from p ++ traced_row_bytes (get_or rows k [], get_or vias k [])) here

  -- and where it goes in a text
  pub run-put : (all : Option (List (List ℕ))) (from p : ℕ) (old before after : List ℕ) → IfSome all (HaveVias rows) → from ≤ p → p < length rows → before ≡ old ++ run_bytes rows all from p → after ≡ before ++ node_bytes rows all (p + 1) → after ≡ old ++ run_bytes rows all from (p + 1)
  run-put all from p old before after have rising within so_far puts =
      puts ∙ ap (λ t. t ++ node_bytes rows all (p + 1)) so_far ∙ append_assoc old (run_bytes rows all from p) (node_bytes rows all (p + 1))
      ∙ ap (λ t. old ++ t) (sym (run-more all from p have rising within))

  -- a run, and the run after it
  pub run-append : (all : Option (List (List ℕ))) (from mid to : ℕ) → from ≤ mid → mid ≤ to → run_bytes rows all from mid ++ run_bytes rows all mid to ≡ run_bytes rows all from to
  run-append None from mid to rising rises = both row_bytes rows from mid to rising rises
  run-append (Some vias) from mid to rising rises = both traced_row_bytes (zip rows vias) from mid to rising rises

  -- all rows
  pub run-all : (all : Option (List (List ℕ))) (n : ℕ) → length rows ≤ n → run_bytes rows all 0 n ≡ rows_bytes rows all
  run-all None n within = ap (flat_map row_bytes) (take_all (n - 0) rows (omega (arith, within)))
  run-all (Some vias) n within = ap (flat_map traced_row_bytes) (take_all (n - 0) (zip rows vias) (omega (arith, within, length-zip rows vias)))

  -- after what stands before them
  pub stored-runs : (order : List ℕ) (all : Option (List (List ℕ))) (n : ℕ) (bytes : List ℕ) → n ≡ length order → length rows ≡ length order → bytes ≡ before_rows (version_of all) order ++ run_bytes rows all 0 n → bytes ≡ stored_bytes order rows all
  stored-runs order all n bytes nodes size is =
      is ∙ ap (λ t. before_rows (version_of all) order ++ t) (run-all all n (omega (arith, nodes, size)))
      ∙ append_assoc (head_bytes (version_of all) (length order)) (flat_map word order) (rows_bytes rows all)

  -- the pieces of a run, and those of the run after it
  pub run-pieces : (all : Option (List (List ℕ))) (first second pieces : List (Vec ℕ Global)) (from mid to : ℕ) → pieces ≡ first ++ second → from ≤ mid → mid ≤ to → flat_map bytes_of first ≡ run_bytes rows all from mid → flat_map bytes_of second ≡ run_bytes rows all mid to → flat_map bytes_of pieces ≡ run_bytes rows all from to
  run-pieces all first second pieces from mid to joined rising rises one other =
      ap (flat_map bytes_of) joined ∙ flat_map-append bytes_of first second ∙ ap₂ (λ a b. a ++ b) one other ∙ run-append all from mid to rising rises
