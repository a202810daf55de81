-- Entries that are put in a sink, and then in the rows of their nodes.
use Rattle.std.proofs.Common.{◌≡◌, ℕ, ◌+◌, ◌-◌, ◌<◌, ◌≤◌, List, [], ◌∷◌, ◌++◌, length, get_or, set, sym, ap, ◌∙◌, inl, inr, arith}
use Rattle.std.proofs.lemmas.Bool.{cases_eq}
use Rattle.std.proofs.lemmas.List.{append-nil, get_or_default, get_or-set_same, get_or-set_other}
use Rattle.walk_laws.specs.declared.entry.Entry.{Entry}
use Rattle.walk_laws.specs.Labelling.{label_row}
use Rattle.hub_index.specs.declared.node_entry.NodeEntry.{NodeEntry}
use Rattle.hub_index.specs.HubIndex.{with_entry}
use Rattle.hub_index.specs.NodeEntries.{entries_of_node, entry_if}
use Rattle.hub_index.proofs.GatheredRows.{entries_of_node-append, entries_of_node-one, entry_if-same, entry_if-other}
use Rattle.hub_index.proofs.RowsGathered.{row_gains, row_stays}
use Rattle.entry_sinks.specs.Sunk.{range_of}

-- a row after an entry that is put at the node after `before`
pub row_after : (rows : List (List Entry)) (before node v : ℕ) (e : Entry) → before < node → node - before ≤ length rows → 1 ≤ v → v ≤ length rows → label_row (with_entry rows (node - before) e) v ≡ label_row rows v ++ entry_if node (before + v) e
row_after rows before node v e past within from_one up_to = elim (cases_eq v (node - before)) [
  | inl here ↦
      let same : node ≡ before + v = omega (arith, here) in
      let gains : label_row (with_entry rows (node - before) e) (node - before) ≡ label_row rows (node - before) ++ e ∷ [] = row_gains rows (node - before) e (omega arith) within in
      ap (label_row (with_entry rows (node - before) e)) here ∙ gains ∙ ap (λ x. label_row rows x ++ e ∷ []) (sym here) ∙ ap (λ es. label_row rows v ++ es) (sym (ap (λ x. entry_if x (before + v) e) same ∙ entry_if-same (before + v) e))
  | inr other ↦
      row_stays rows (node - before) v e (omega arith) from_one other
      ∙ sym (ap (λ es. label_row rows v ++ es) (entry_if-other node (before + v) e (λ same. other (omega (arith, same)))) ∙ append-nil (label_row rows v))
]

-- one more entry, which lies in the range of its node
pub sunk_after : (n : ℕ) (ranges : List (List NodeEntry)) (k node v : ℕ) (e : Entry) (old new : List NodeEntry) → k ≡ range_of n node → k < length ranges → old ≡ get_or ranges k old → new ≡ old ++ record { node = node; pos = e.pos; dist = e.dist } ∷ [] → entries_of_node (get_or (set ranges k new) (range_of n v) []) v ≡ entries_of_node (get_or ranges (range_of n v) []) v ++ entry_if node v e
sunk_after n ranges k node v e old new in_range lt is grown =
    elim (cases_eq (range_of n v) k) [
      | inl here ↦
          let now : get_or (set ranges k new) (range_of n v) [] ≡ old ++ record { node = node; pos = e.pos; dist = e.dist } ∷ [] =
          ap (λ i. get_or (set ranges k new) i []) here ∙ get_or-set_same ranges k new [] lt ∙ grown in
          let was : get_or ranges (range_of n v) [] ≡ old =
          ap (λ i. get_or ranges i []) here ∙ get_or_default ranges k [] old lt ∙ sym is in
          ap (λ es. entries_of_node es v) now
          ∙ entries_of_node-append old (record { node = node; pos = e.pos; dist = e.dist } ∷ []) v
          ∙ ap (λ es. entries_of_node old v ++ es) (entries_of_node-one (record { node = node; pos = e.pos; dist = e.dist }) v)
          ∙ ap (λ es. entries_of_node es v ++ entry_if node v e) (sym was)
      | inr other ↦
          ap (λ es. entries_of_node es v) (get_or-set_other ranges k (range_of n v) new [] other)
          ∙ sym (ap (λ es. entries_of_node (get_or ranges (range_of n v) []) v ++ es) (entry_if-other node v e (λ same. other (ap (range_of n) (sym same) ∙ sym in_range))) ∙ append-nil (entries_of_node (get_or ranges (range_of n v) []) v))
    ]
