-- Lists of shards, one of which changes.
use Rattle.std.proofs.Common.{◌≡◌, ◌≢◌, inl, inr, ℕ, ◌+◌, ◌<◌, List, [], ◌∷◌, ◌++◌, All, get_or, length, map, set, take, sym, ap, ◌∙◌, arith}
use Rattle.std.proofs.Math.Seq.{map-set_same}
use Rattle.std.proofs.lemmas.Bool.{cases_eq}
use Rattle.std.proofs.lemmas.List.{append-nil, get_or-map, get_or-set_other, get_or-set_same, length-map, map-set, take_more}
use Rattle.std.proofs.lemmas.List.Elements.{All-get_or}
use Rattle.hub_index.specs.declared.node_entry.NodeEntry.{NodeEntry}
use Rattle.hub_index.specs.Shards.{shard_number}
use Rattle.label_clean.specs.declared.runs.RunList.{RunList}
use Rattle.label_clean.specs.RunLists.{entries_at}
use Rattle.gll_table.specs.Partition.{in_shard, shard_entries}
use Rattle.gll_table.proofs.PartEntries.{one_elsewhere, one_here, shard_entries-append}

abbrev items_of : RunList → List NodeEntry
items_of list = list.entries.items

-- a list is replaced by one that has the same entries
pub entries_stay : (lists : List RunList) (i : ℕ) (list d : RunList) → list.entries ≡ (get_or lists i d).entries → map items_of (set lists i list) ≡ map items_of lists
entries_stay lists i list d same = map-set_same items_of lists i list d (ap (λ entries. entries.items) same)

-- what a list has is what stands at its place
entries_there : (lists : List RunList) (i : ℕ) (d : RunList) → i < length lists → entries_at lists i ≡ items_of (get_or lists i d)
entries_there lists i d within = get_or-map items_of lists i d [] within

-- where all lists are empty, nothing stands at any place
pub none_there : (lists : List RunList) (i : ℕ) → All (λ (list : RunList). list.entries.items ≡ []) lists → i < length lists → entries_at lists i ≡ []
none_there [] i empty within = absurd (omega (arith, within))
none_there (x ∷ xs) i empty within = entries_there (x ∷ xs) i x within ∙ All-get_or (λ (list : RunList). list.entries.items ≡ []) (x ∷ xs) i x within empty

-- one list changes, and the others stay
module _ (lists : List RunList) (i : ℕ) (list : RunList) where
  entries_now : i < length lists → entries_at (set lists i list) i ≡ items_of list
  entries_now within = ap (λ ls. get_or ls i []) (map-set items_of lists i list) ∙ get_or-set_same (map items_of lists) i (items_of list) [] (omega (arith, within, length-map lists items_of))

  entries_still : (j : ℕ) → j ≢ i → entries_at (set lists i list) j ≡ entries_at lists j
  entries_still j other = ap (λ ls. get_or ls j []) (map-set items_of lists i list) ∙ get_or-set_other (map items_of lists) i j (items_of list) [] other

-- the next entry is put last in the list of its shard
pub one_more : (shift count : ℕ) (entries : List NodeEntry) (i : ℕ) (x : NodeEntry) → x ≡ get_or entries i x → i < length entries → (lists : List RunList) → ((number : ℕ) → number < count → entries_at lists number ≡ shard_entries shift number (take i entries))
    → (place : ℕ) (d list : RunList) → shard_number shift x.node ≡ place → place < length lists → list.entries.items ≡ (get_or lists place d).entries.items ++ in_shard shift x ∷ []
    → (number : ℕ) → number < count → entries_at (set lists place list) number ≡ shard_entries shift number (take (i + 1) entries)
one_more shift count entries i x is within lists so_far place d list of inside put number low =
    let old = shard_entries shift number (take i entries) in
    let more : shard_entries shift number (take (i + 1) entries) ≡ shard_entries shift number (take i entries) ++ shard_entries shift number (x ∷ []) =
    ap (shard_entries shift number) (take_more entries i x within) ∙ shard_entries-append shift number (take i entries) (get_or entries i x ∷ []) ∙ ap (λ y. shard_entries shift number (take i entries) ++ shard_entries shift number (y ∷ [])) (sym is) in
    elim (cases_eq number place) [
      | inr other ↦
          entries_still lists place list number other ∙ so_far number low
          ∙ sym (more ∙ ap (λ es. old ++ es) (one_elsewhere shift number x (λ same. other (sym same ∙ of))) ∙ append-nil old)
      | inl here ↦
          ap (entries_at (set lists place list)) here ∙ entries_now lists place list inside ∙ put
          ∙ ap (λ es. es ++ in_shard shift x ∷ []) (sym (entries_there lists place d inside) ∙ ap (entries_at lists) (sym here) ∙ so_far number low)
          ∙ sym (more ∙ ap (λ es. old ++ es) (one_here shift number x (of ∙ sym here)))
    ]
