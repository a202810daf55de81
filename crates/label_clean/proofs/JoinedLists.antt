-- The runs of many lists, one list after another.
use Rattle.std.proofs.Common.{◌≡◌, ℕ, ◌+◌, ◌<◌, List, [], ◌∷◌, ◌++◌, All, length, map, get_or, take, flat_map, sym, ap, subst, ◌∙◌}
use Rattle.std.proofs.lemmas.Grind.{flat_map-append}
use Rattle.std.proofs.lemmas.List.{append-nil, get_or-map, take_more}
use Rattle.std.proofs.lemmas.List.Concat.{flat_map-cons}
use Rattle.std.proofs.lemmas.List.Elements.{All-append, All-map, All-weaker}
use Rattle.std.proofs.lemmas.List.Folds.{flat_map-map}
use Rattle.hub_index.specs.declared.node_entry.NodeEntry.{NodeEntry}
use Rattle.label_clean.specs.declared.runs.RunList.{RunList}
use Rattle.label_clean.specs.declared.turns.Turn.{Turn}
use Rattle.label_clean.specs.RootRuns.{IsRunIn, entries_of_run}
use Rattle.label_clean.specs.RunLists.{HasItsRuns, IsTurnOf, all_entries, entries_at, part_of, turn_of}

-- a list more has its entries after those of the others
pub all_entries-push : (lists : List RunList) (list : RunList) → all_entries (lists ++ list ∷ []) ≡ all_entries lists ++ list.entries.items
all_entries-push lists list =
    let f : RunList → List NodeEntry = λ list. list.entries.items in
    flat_map-append f lists (list ∷ []) ∙ ap (λ es. flat_map f lists ++ es) (flat_map-cons f list [] ∙ append-nil list.entries.items)

module _ (lists : List RunList) (place : ℕ) (d : RunList) (within : place < length lists) where
  pub entries_there : entries_at lists place ≡ (get_or lists place d).entries.items
  entries_there = get_or-map (λ (list : RunList). list.entries.items) lists place d [] within

  module _ (listed : HasItsRuns (get_or lists place d)) where
    abbrev more : List Turn
    more = map (turn_of place) (get_or lists place d).runs.items

    list_whole : flat_map (part_of lists) (map (turn_of place) (get_or lists place d).runs.items) ≡ (get_or lists place d).entries.items
    list_whole =
        flat_map-map (part_of lists) (turn_of place) (get_or lists place d).runs.items
        ∙ ap (λ es. flat_map (λ run. entries_of_run es run) (get_or lists place d).runs.items) entries_there ∙ listed.whole

    -- the runs of lists and of the next one are those of all of them
    pub turns_more : (turns : List Turn) → flat_map (part_of lists) turns ≡ all_entries (take place lists)
        → flat_map (part_of lists) (turns ++ map (turn_of place) (get_or lists place d).runs.items) ≡ all_entries (take (place + 1) lists)
    turns_more turns so_far =
        flat_map-append (part_of lists) turns more
        ∙ ap (λ es. es ++ flat_map (part_of lists) more) so_far
        ∙ ap (λ es. all_entries (take place lists) ++ es) list_whole
        ∙ sym (ap all_entries (take_more lists place d within) ∙ all_entries-push (take place lists) (get_or lists place d))

    pub each_more : (turns : List Turn) → All (IsTurnOf lists) turns → All (IsTurnOf lists) (turns ++ map (turn_of place) (get_or lists place d).runs.items)
    each_more turns so_far =
        All-append (IsTurnOf lists) turns more so_far
        (All-map (IsTurnOf lists) (turn_of place) (get_or lists place d).runs.items
        (All-weaker (IsRunIn (get_or lists place d).entries.items) (λ run. IsTurnOf lists (turn_of place run)) (λ run is. record { list = within; run = subst (λ es. IsRunIn es run) (sym entries_there) is }) (get_or lists place d).runs.items listed.each))
