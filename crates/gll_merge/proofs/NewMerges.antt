-- What all workers put joins each shard.
use Rattle.std.proofs.Common.{◌≡◌, inl, inr, ℕ, ◌<◌, ◌≤◌, List, [], ◌∷◌, ◌++◌, All, Contains, length, map, refl, sym, ap, subst, ◌∙◌, arith}
use Rattle.std.specs.Prelude.{Some, slice_get}
use Rattle.std.specs.List.Sorted.{IsPermutation}
use Rattle.std.proofs.lemmas.List.Concat.{flat_map-cons}
use Rattle.std.proofs.lemmas.List.Elements.{All-append, All-contains, All-nil, All-push}
use Rattle.std.proofs.lemmas.Option.{slice_get_cases}
use Rattle.walk_laws.specs.declared.graph.Edge.{Edge}
use Rattle.walk_laws.specs.declared.entry.Entry.{Entry}
use Rattle.walk_laws.specs.Laws.{WeighAtLeastOne}
use Rattle.walk_laws.specs.Ranking.{IsRanking}
use Rattle.walk_laws.proofs.Members.{Contains-first, Contains-next}
use Rattle.hub_index.specs.declared.node_entry.NodeEntry.{NodeEntry}
use Rattle.hub_index.specs.Shards.{node_at, shard_count, shard_size}
use Rattle.hub_index.specs.NodeEntries.{entries_of_node, entry_of}
use Rattle.hub_index.specs.Views.{IsNode}
use Rattle.hub_index.proofs.DealtNodes.{place_in_shard, place_within}
use Rattle.table_seats.specs.Numbers.{numbers}
use Rattle.label_clean.specs.declared.hub_rows.HubEntry.{HubEntry}
use Rattle.label_clean.specs.declared.runs.RunList.{RunList}
use Rattle.label_clean.specs.HubRows.{AreGathered, RowsFrom}
use Rattle.label_clean.specs.Joining.{JoinsRow, JoinsUnder}
use Rattle.label_clean.specs.RunLists.{HasItsRuns, all_entries}
use Rattle.label_clean.proofs.JoinedLists.{entries_there}
use Rattle.label_clean.proofs.TimesOf.{to_node}
use Rattle.gll_table.specs.Partition.{ListsHubs, shard_entries}
use Rattle.gll_table.specs.Outputs.{HavePutOver, IsOutput, Output, all_put, all_roots}
use Rattle.gll_merge.specs.Merging.{IsMerge, lists_at}
use Rattle.gll_table.proofs.PartEntries.{all_in_part, entries_of_part, nodes_of_part, shard_entries-append}
use Rattle.gll_merge.proofs.NewRoots.{JoinsRow-new, root_within}
use Rattle.gll_merge.proofs.GatheredHubs.{JoinsUnder-gathered}
use Rattle.gll_merge.proofs.Outputs.{HavePutOver-all, roots_differ}

module _ (edges : List Edge) (at : List ℕ) (shift number : ℕ) (there : number < shard_count shift (length at)) where
  -- one worker's list of the shard
  one : (s : Output) → IsOutput edges at shift s → (list : RunList) × (slice_get s.parts number ≡ Some list) × (list.entries.items ≡ shard_entries shift number s.list) × HasItsRuns list
  one s is =
      let parts = is.are_parts in
      let found = slice_get_cases s.parts number in
      elim found.1 [
        | inr past ↦ absurd (omega (arith, past.0, parts.size, there))
        | inl here ↦
            let list = here.0 in (
              list,
              here.2,
              ap (λ (l : RunList). l.entries.items) (sym here.3) ∙ sym (entries_there s.parts number list here.1) ∙ parts.each number there,
              subst HasItsRuns here.3 (parts.runs number list here.1),
            )
      ]

  -- all workers' lists of the shard
  pub entries_of_shard : (outputs : List Output) → ((s : Output) → Contains outputs s → IsOutput edges at shift s) → all_entries (lists_at (map (λ s. s.parts) outputs) number) ≡ shard_entries shift number (all_put outputs)
  entries_of_shard [] are = refl
  entries_of_shard (s ∷ outputs) are =
      let mine = one s (are s (Contains-first s outputs)) in
      let rest = entries_of_shard outputs (λ t has. are t (Contains-next s t outputs has)) in
      ap all_entries (first_list mine.0 mine.1)
      ∙ flat_map-cons (λ (list : RunList). list.entries.items) mine.0 (lists_at (map (λ s. s.parts) outputs) number)
      ∙ ap (λ es. es ++ all_entries (lists_at (map (λ s. s.parts) outputs) number)) mine.2
      ∙ ap (λ es. shard_entries shift number s.list ++ es) rest
      ∙ sym (ap (shard_entries shift number) (flat_map-cons (λ (s : Output). s.list) s outputs) ∙ shard_entries-append shift number s.list (all_put outputs))
    where
      first_list : (list : RunList) → slice_get s.parts number ≡ Some list → lists_at (map (λ s. s.parts) (s ∷ outputs)) number ≡ list ∷ lists_at (map (λ s. s.parts) outputs) number
      first_list list is = rw is refl

  pub runs_of_shard : (outputs : List Output) → ((s : Output) → Contains outputs s → IsOutput edges at shift s) → All HasItsRuns (lists_at (map (λ s. s.parts) outputs) number)
  runs_of_shard [] are = All-nil HasItsRuns
  runs_of_shard (s ∷ outputs) are =
      let mine = one s (are s (Contains-first s outputs)) in
      let rest = runs_of_shard outputs (λ t has. are t (Contains-next s t outputs has)) in
      subst (All HasItsRuns) (sym (first_list mine.0 mine.1))
      (All-append HasItsRuns (mine.0 ∷ []) (lists_at (map (λ s. s.parts) outputs) number) (All-push HasItsRuns [] mine.0 (All-nil HasItsRuns) mine.3) rest)
    where
      first_list : (list : RunList) → slice_get s.parts number ≡ Some list → lists_at (map (λ s. s.parts) (s ∷ outputs)) number ≡ list ∷ lists_at (map (λ s. s.parts) outputs) number
      first_list list is = rw is refl

  module _ (weights : WeighAtLeastOne edges) (ranking : IsRanking at) (first next : ℕ) (up : first ≤ next) (within : next ≤ length at) (outputs : List Output) (are : (s : Output) → Contains outputs s → IsOutput edges at shift s) (over : (s : Output) → Contains outputs s → s.first ≡ first) (roots : IsPermutation (all_roots outputs) (numbers first next))
      (hubs : List HubEntry) (listed : ListsHubs at next (all_put outputs) hubs) (rows : RowsFrom) (gathered : AreGathered first next hubs rows) where
    all_over : HavePutOver edges at first (all_roots outputs) (all_put outputs)
    all_over = HavePutOver-all edges at first shift outputs (λ s has. (are s has, over s has)) (roots_differ first next (all_roots outputs) roots)

    node : (x : NodeEntry) → Contains (all_put outputs) x → IsNode (length at) x.node
    node x has = All-contains (λ (e : NodeEntry). IsNode (length at) e.node) (all_put outputs) x all_over.nodes has

    -- the positions are those of the roots
    root : (x : NodeEntry) → Contains (all_put outputs) x → (first ≤ x.pos) × (x.pos < next)
    root x has =
        let of_roots = (all_over.put x.node (node x has)).of_roots in
        root_within edges at first next (all_roots outputs) (all_put outputs) roots all_over x.pos
        (All-contains (λ (e : Entry). Contains (all_roots outputs) e.pos) (entries_of_node (all_put outputs) x.node) (entry_of x) of_roots (to_node (all_put outputs) x has))

    pub IsMerge-new : IsMerge edges at shift number first next (lists_at (map (λ s. s.parts) outputs) number) rows
    IsMerge-new =
        let entries_are = sym (entries_of_shard outputs are) in
        record {
          within = within;
          first_is = gathered.first_is;
          size = omega (arith, gathered.first_is, gathered.size, up);
          runs = runs_of_shard outputs are;
          nodes = subst (All (λ (e : NodeEntry). IsNode (shard_size shift (length at) number) e.node)) entries_are (nodes_of_part shift number (length at) (all_put outputs) node);
          from = subst (All (λ (e : NodeEntry). rows.first ≤ e.pos)) entries_are (all_in_part shift number (λ (e : NodeEntry). rows.first ≤ e.pos) (all_put outputs) (λ x has. omega (arith, gathered.first_is, (root x has).0)));
          below = subst (All (λ (e : NodeEntry). e.pos < next)) entries_are (all_in_part shift number (λ (e : NodeEntry). e.pos < next) (all_put outputs) (λ x has. (root x has).1));
          under = λ v is_node.
              subst (λ p. JoinsUnder edges at p next rows.rows v) (sym gathered.first_is)
              (JoinsUnder-gathered edges at weights ranking first next up (all_roots outputs) (all_put outputs) roots all_over hubs (λ q h from low is. listed q h low is) rows gathered v is_node);
          joins = λ place is_place.
              subst (λ p. JoinsRow edges at p next (node_at shift number place) (entries_of_node (all_entries (lists_at (map (λ s. s.parts) outputs) number)) place)) (sym gathered.first_is)
              (subst (λ es. JoinsRow edges at first next (node_at shift number place) es)
              (sym (ap (λ es. entries_of_node es place) (entries_of_shard outputs are) ∙ entries_of_part shift number place (place_in_shard shift (length at) number place is_place) (all_put outputs) (λ x has. (node x has).from_one)))
              (JoinsRow-new edges at first next (all_roots outputs) (all_put outputs) roots all_over (node_at shift number place) (place_within shift (length at) number place is_place)));
        }
