-- Lists of lists, of which the last one of each is taken, one shard after the other.
use Rattle.std.proofs.Common.{◌≡◌, ℕ, zero, suc, ◌+◌, ◌-◌, ◌<◌, ◌≤◌, List, [], ◌∷◌, ◌++◌, All, drop, get_or, length, map, set, take, refl, sym, ap, ◌∙◌, arith}
use Rattle.std.specs.Prelude.{Option, None, Some, slice_get}
use Rattle.std.specs.List.{cons_option}
use Rattle.std.specs.Option.{option_to_list}
use Rattle.std.proofs.lemmas.List.{get_or-drop, get_or-map, get_or-take, get_or_push, length-append, length-map, length-take-le, map-append, map_more, take-take, take_all, take_more_set}
use Rattle.std.proofs.lemmas.List.Elements.{filter_map-append}
use Rattle.std.proofs.lemmas.Simd.{map-map}
use Rattle.std.proofs.Math.Seq.{take-append_seam}
use Rattle.walk_laws.specs.declared.entry.Entry.{Entry}
use Rattle.hub_index.specs.Shards.{shard_at}
use Rattle.label_clean.specs.declared.runs.RunList.{RunList}
use Rattle.gll_merge.specs.Merging.{lists_at}

-- the list at a place of one more comes after those of the others
lists_at-push : (parts : List (List RunList)) (lists : List RunList) (number : ℕ) → lists_at (parts ++ lists ∷ []) number ≡ lists_at parts number ++ option_to_list (slice_get lists number)
lists_at-push parts lists number = filter_map-append (λ ls. slice_get ls number) parts (lists ∷ []) ∙ ap (λ more. lists_at parts number ++ more) (one (slice_get lists number))
  where
    one : (list : Option RunList) → cons_option list [] ≡ option_to_list list
    one None = refl
    one (Some list) = refl

-- lists from a place on that are as they were
pub same_there : {V : Type 0} (now old : List V) (k : ℕ) (d : V) → drop k now ≡ drop k old → get_or now k d ≡ get_or old k d
same_there now old k d same = ap (λ i. get_or now i d) (sym here) ∙ sym (get_or-drop k now 0 d) ∙ ap (λ vs. get_or vs 0 d) same ∙ get_or-drop k old 0 d ∙ ap (λ i. get_or old i d) here
  where
    here : k + 0 ≡ k
    here = omega arith

module _ {V : Type 0} (lists_of : V → List RunList) (old : List V) (number k : ℕ) (v : V) (within : k < length old) where
  -- the list at a place of the next one is taken
  pub one_taken : (lists : List RunList) (taken : Option RunList) → lists ≡ lists_at (map lists_of (take k old)) number → taken ≡ slice_get (lists_of (get_or old k v)) number → lists ++ option_to_list taken ≡ lists_at (map lists_of (take (k + 1) old)) number
  one_taken lists taken so_far is =
      ap (λ ls. ls ++ option_to_list taken) so_far ∙ ap (λ l. lists_at (map lists_of (take k old)) number ++ option_to_list l) is
      ∙ sym (ap (λ parts. lists_at parts number) (map_more lists_of old k v within) ∙ lists_at-push (map lists_of (take k old)) (lists_of (get_or old k v)) number)

  -- the next one keeps the lists below the place
  pub one_cut : (now : List V) (w : V) → length now ≡ length old → lists_of w ≡ take number (lists_of (get_or old k v)) → map lists_of (take k now) ≡ map (λ d. take number (lists_of d)) (take k old)
      → map lists_of (take (k + 1) (set now k w)) ≡ map (λ d. take number (lists_of d)) (take (k + 1) old)
  one_cut now w long is so_far =
      ap (map lists_of) (take_more_set now k w (omega (arith, within, long))) ∙ map-append lists_of (take k now) (w ∷ [])
      ∙ ap (λ ls. ls ++ lists_of w ∷ []) so_far ∙ ap (λ l. map (λ d. take number (lists_of d)) (take k old) ++ l ∷ []) is
      ∙ sym (map_more (λ d. take number (lists_of d)) old k v within)

-- what is taken off the end of a list is the one that stood there
slice_get-last : (left : List RunList) (taken : Option RunList) → slice_get (left ++ option_to_list taken) (length left) ≡ taken
slice_get-last [] None = refl
slice_get-last [] (Some list) = refl
slice_get-last (x ∷ left) taken = slice_get-last left taken

-- what is taken off the end of lists is the one at the last place, and the others are left
pub last_taken : (lists left : List RunList) (taken : Option RunList) (number len : ℕ) → length lists ≡ number + 1 → len ≡ length lists → lists ≡ left ++ option_to_list taken → left ≡ take (len - 1) lists → (left ≡ take number lists) × (taken ≡ slice_get lists number)
last_taken lists left taken number len long len_is both rest =
    let low : len - 1 ≡ number = omega arith in
    let left_is : left ≡ take number lists = rest ∙ ap (λ n. take n lists) low in
    let size : length left ≡ number = ap length left_is ∙ length-take-le number lists (omega arith) in
    (left_is, sym (ap (λ ls. slice_get ls number) both ∙ ap (slice_get (left ++ option_to_list taken)) (sym size) ∙ slice_get-last left taken))

-- a list that is cut has what it had below the cut
slice_get-take : (lists : List RunList) (m i : ℕ) → i < m → slice_get (take m lists) i ≡ slice_get lists i
slice_get-take lists zero i low = absurd (omega (arith, low))
slice_get-take [] (suc m) i low = refl
slice_get-take (x ∷ lists) (suc m) zero low = refl
slice_get-take (x ∷ lists) (suc m) (suc i) low = slice_get-take lists m i (omega (arith, low))

-- lists that are cut behind a place have there what they had
lists_at-cut : (parts : List (List RunList)) (m number : ℕ) → number < m → lists_at (map (take m) parts) number ≡ lists_at parts number
lists_at-cut [] m number low = refl
lists_at-cut (lists ∷ parts) m number low =
    ap (λ list. cons_option list (lists_at (map (take m) parts) number)) (slice_get-take lists m number low)
    ∙ ap (cons_option (slice_get lists number)) (lists_at-cut parts m number low)

-- a second cut stands before the first one
cut_again : (parts : List (List RunList)) (n m : ℕ) → n ≤ m → map (take n) (map (take m) parts) ≡ map (take n) parts
cut_again [] n m le = refl
cut_again (lists ∷ parts) n m le = ap (λ ls. ls ∷ map (take n) (map (take m) parts)) (take-take n m lists le) ∙ ap (λ ls. take n lists ∷ ls) (cut_again parts n m le)

-- lists are as they were where they are cut behind their ends
pub none_cut : {V : Type 0} (lists_of : V → List RunList) (parts : List V) (m : ℕ) → All (λ d. length (lists_of d) ≡ m) parts → map lists_of parts ≡ map (take m) (map lists_of parts)
none_cut lists_of [] m long = refl
none_cut lists_of (d ∷ parts) m long =
    ap (λ ls. ls ∷ map lists_of parts) (sym (take_all m (lists_of d) (omega (arith, long 0 d (omega arith)))))
    ∙ ap (λ ls. take m (lists_of d) ∷ ls) (none_cut lists_of parts m (λ k e low. long (suc k) e (omega (arith, low))))

-- lists that were cut behind a place
module _ {V : Type 0} (lists_of : V → List RunList) (old now : List V) (m number : ℕ) (last : m ≡ number + 1) (cut : map lists_of now ≡ map (take m) (map lists_of old)) where
  -- the place is the last one of each
  pub last_of_each : (count : ℕ) → All (λ d. length (lists_of d) ≡ count) old → m ≤ count → All (λ d. length (lists_of d) ≡ number + 1) now
  last_of_each count long within k d low =
      let same : length now ≡ length old = sym (length-map now lists_of) ∙ ap length cut ∙ length-map (map lists_of old) (take m) ∙ length-map old lists_of in
      let there : k < length old = omega (arith, low, same) in
      let in_map : k < length (map lists_of old) = omega (arith, there, length-map old lists_of) in
      let is : lists_of (get_or now k d) ≡ take m (lists_of (get_or old k d)) =
      sym (get_or-map lists_of now k d [] low) ∙ ap (λ ls. get_or ls k []) cut ∙ get_or-map (take m) (map lists_of old) k [] [] in_map ∙ ap (take m) (get_or-map lists_of old k d [] there) in
      ap length is ∙ length-take-le m (lists_of (get_or old k d)) (omega (arith, long k d there, within)) ∙ last

  -- what stands at the place stood there before
  pub lists_there : (lists : List RunList) → lists ≡ lists_at (map lists_of now) number → lists ≡ lists_at (map lists_of old) number
  lists_there lists is = is ∙ ap (λ parts. lists_at parts number) cut ∙ lists_at-cut (map lists_of old) m number (omega (arith, last))

  -- and they are cut at the place
  pub cut_there : (new : List V) → map lists_of new ≡ map (λ d. take number (lists_of d)) now → map lists_of new ≡ map (take number) (map lists_of old)
  cut_there new is = is ∙ sym (map-map (take number) lists_of now) ∙ ap (map (take number)) cut ∙ cut_again (map lists_of old) number m (omega (arith, last))

-- of shards of which the first ones are left, the last one is taken
pub last_shard : (shards now left : List (List (List Entry))) (rows : List (List Entry)) (number : ℕ) → now ≡ take (length now) shards → now ≡ left ++ rows ∷ [] → number ≡ length left → (shard_at shards number ≡ rows) × (left ≡ take (length left) shards)
last_shard shards now left rows number first is last =
    let size : length now ≡ length left + 1 = ap length is ∙ length-append left (rows ∷ []) in
    let both : take (length now) shards ≡ left ++ rows ∷ [] = sym first ∙ is in (
      sym (get_or-take (length now) shards number [] (omega (arith, size, last))) ∙ ap (λ rs. get_or rs number []) both ∙ get_or_push left rows [] number (sym last),
      sym (take-append_seam left (rows ∷ [])) ∙ ap (take (length left)) (sym both) ∙ take-take (length left) (length now) shards (omega (arith, size)),
    )
