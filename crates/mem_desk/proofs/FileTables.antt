-- What a map of texts has, as a table of files, and what putting a file and writing to its end do to it.
use Rattle.std.proofs.Common.{◌≡◌, ℕ, Bool, true, false, cond, List, [], ◌∷◌, ◌++◌, map, Option, Some, None, Vec, String, refl, sym, ◌∙◌, ap}
use Rattle.std.specs.BTreeMap as tree
use Rattle.std.specs.BTreeMap.{BTreeMap, is_at}
use Rattle.std.specs.Map.{lookup}
use Rattle.std.specs.Option.{option_map}
use Rattle.std.specs.String.{string_bytes, string_cmp}
use Rattle.std.specs.Ordering.{nat_cmp, eq_by_cmp}
use Rattle.std.specs.Cmp.{eq_by_cmp_equiv}
use Rattle.std.specs.Cmp.Lexicographic.{slice_cmp, nat_list_cmp_total}
use Rattle.std.specs.FinMap.{get, insert, find, get-from_entries, get-insert, same_map, nat_cmp-IsAntisymmetric, slice_cmp-IsAntisymmetric}
use Rattle.std.proofs.lemmas.Map.Text.{btree_map_updates_text, is_eq-slice_cmp}
use Rattle.desk_io.specs.Contents.{appended}
use Rattle.desk_io.proofs.FileLemmas.{insert_held, appended_held, appended_missing}
use Rattle.mem_desk.specs.Files.{files_of}

-- a choice of values, and of their bytes
found_under : {Z : Type 0} (b : Bool) (v : Vec ℕ Z) (o : Option (List ℕ)) (p : Option (Vec ℕ Z)) → o ≡ option_map (λ v. v.items) p → cond b (Some v.items) o ≡ option_map (λ v. v.items) (cond b (Some v) p)
found_under true v o p same = refl
found_under false v o p same = same

module _ {Y Z : Type 0} where
  find_file : (es : List (String Y × Vec ℕ Z)) (name : List ℕ) → find (slice_cmp nat_cmp) name (map (λ e. (string_bytes e.0, e.1.items)) es) ≡ option_map (λ v. v.items) (lookup (is_at (λ k. slice_cmp nat_cmp name (string_bytes k))) es)
  find_file [] name = refl
  find_file (e ∷ es) name = found_under (eq_by_cmp (slice_cmp nat_cmp) name (string_bytes e.0)) e.1 _ _ (find_file es name)

  -- what the map has at a name
  pub get-files_of : (m : BTreeMap (String Y) (Vec ℕ Z)) (name : List ℕ) → get (files_of m.entries) name ≡ option_map (λ v. v.items) (tree.get_by_text m name)
  get-files_of m name = get-from_entries nat_list_cmp_total _ name ∙ find_file m.entries name

  insert_same : (m n : BTreeMap (String Y) (Vec ℕ Z)) (name : List ℕ) (file : Vec ℕ Z) → tree.UpdatesBy string_cmp (λ k. slice_cmp nat_cmp name (string_bytes k)) m n (Some file) → files_of n.entries ≡ insert (files_of m.entries) name file.items
  insert_same m n name file updates = same_map nat_list_cmp_total (slice_cmp-IsAntisymmetric nat_cmp-IsAntisymmetric) _ _ (λ q.
      get-files_of n q
      ∙ ap (option_map (λ v. v.items)) (btree_map_updates_text name m n (Some file) updates q)
      ∙ sym (found_under _ file _ _ (get-files_of m q))
      ∙ ap (λ b. cond b (Some file.items) (get (files_of m.entries) q)) (sym (is_eq-slice_cmp name q) ∙ (eq_by_cmp_equiv nat_list_cmp_total).symm name q)
      ∙ sym (get-insert nat_list_cmp_total (files_of m.entries) name file.items q))

  -- the map after a file was put
  pub insert-files_of : (m n : BTreeMap (String Y) (Vec ℕ Z)) (k : String Y) (name : List ℕ) (file : Vec ℕ Z) (bytes : List ℕ) → string_bytes k ≡ name → file.items ≡ bytes → tree.UpdatesBy string_cmp (string_cmp k) m n (Some file) → files_of n.entries ≡ insert (files_of m.entries) name bytes
  insert-files_of m n k name file bytes named held updates =
      insert_same m n (string_bytes k) file updates ∙ ap (λ x. insert (files_of m.entries) x file.items) named ∙ ap (insert (files_of m.entries) name) held

  -- the bytes of a file that the map of texts holds
  held_at : (m : BTreeMap (String Y) (Vec ℕ Z)) (name : List ℕ) (held : Vec ℕ Z) → Some held ≡ tree.get_by_text m name → get (files_of m.entries) name ≡ Some held.items
  held_at m name held found = get-files_of m name ∙ ap (option_map (λ v. v.items)) (sym found)

  -- the table after bytes went to the end of a file that it has
  pub append-files_of : (m n : BTreeMap (String Y) (Vec ℕ Z)) (name bytes : List ℕ) (held file : Vec ℕ Z) → Some held ≡ tree.get_by_text m name → tree.UpdatesBy string_cmp (λ k. slice_cmp nat_cmp name (string_bytes k)) m n (Some file) → file.items ≡ held.items ++ bytes → files_of n.entries ≡ appended (files_of m.entries) name bytes
  append-files_of m n name bytes held file found updates longer =
      insert_same m n name file updates ∙ ap (insert (files_of m.entries) name) longer ∙ sym (appended_held (files_of m.entries) name bytes held.items (held_at m name held found))

  -- and after none did
  pub keep-files_of : (m n : BTreeMap (String Y) (Vec ℕ Z)) (name : List ℕ) (held file : Vec ℕ Z) → Some held ≡ tree.get_by_text m name → tree.UpdatesBy string_cmp (λ k. slice_cmp nat_cmp name (string_bytes k)) m n (Some file) → file.items ≡ held.items → files_of n.entries ≡ files_of m.entries
  keep-files_of m n name held file found updates same =
      insert_same m n name file updates ∙ ap (insert (files_of m.entries) name) same ∙ insert_held (files_of m.entries) name held.items (held_at m name held found)

  -- where it has no such file, nothing changes
  pub no-files_of : (m n : BTreeMap (String Y) (Vec ℕ Z)) (name bytes : List ℕ) → None ≡ tree.get_by_text m name → n ≡ m → files_of n.entries ≡ appended (files_of m.entries) name bytes
  no-files_of m n name bytes none same =
      ap (λ x. files_of x.entries) same ∙ sym (appended_missing (files_of m.entries) name bytes (get-files_of m name ∙ ap (option_map (λ v. v.items)) (sym none)))
