-- The parts of entries for shards, node by node.
use Rattle.std.proofs.Common.{◌≡◌, ◌≢◌, inl, inr, ℕ, ◌^◌, ◌≤◌, ◌==◌, List, [], ◌∷◌, ◌++◌, All, Contains, filter, flat_map, map, refl, sym, ap, subst, ◌∙◌}
use Rattle.std.proofs.lemmas.Bool.{cases_eq, eq-eqb, ne_eqb}
use Rattle.std.proofs.lemmas.List.{map-append}
use Rattle.std.proofs.lemmas.List.Concat.{flat_map-cons}
use Rattle.std.proofs.lemmas.List.Elements.{All-append, All-nil, All-push, filter-append}
use Rattle.walk_laws.proofs.Members.{Contains-first, Contains-next}
use Rattle.hub_index.specs.declared.node_entry.NodeEntry.{NodeEntry}
use Rattle.hub_index.specs.NodeEntries.{entries_of_node, entry_if, entry_of}
use Rattle.hub_index.specs.Shards.{node_at, shard_number, shard_place, shard_size}
use Rattle.hub_index.specs.Views.{IsNode}
use Rattle.hub_index.proofs.DealtNodes.{IsNode-dealt, node_at_place, number_of_node, place_of_node}
use Rattle.hub_index.proofs.GatheredRows.{entries_of_node-append, entries_of_node-one, entry_if-other, entry_if-same}
use Rattle.gll_table.specs.Partition.{in_shard, shard_entries}

module _ (shift number : ℕ) where
  pub shard_entries-append : (xs ys : List NodeEntry) → shard_entries shift number (xs ++ ys) ≡ shard_entries shift number xs ++ shard_entries shift number ys
  shard_entries-append xs ys =
      ap (map (in_shard shift)) (filter-append (λ (e : NodeEntry). shard_number shift e.node == number) xs ys)
      ∙ map-append (in_shard shift) (filter (λ (e : NodeEntry). shard_number shift e.node == number) xs) (filter (λ (e : NodeEntry). shard_number shift e.node == number) ys)

  pub one_here : (x : NodeEntry) → shard_number shift x.node ≡ number → shard_entries shift number (x ∷ []) ≡ in_shard shift x ∷ []
  one_here x same = rw (eq-eqb (shard_number shift x.node) number same) refl

  pub one_elsewhere : (x : NodeEntry) → shard_number shift x.node ≢ number → shard_entries shift number (x ∷ []) ≡ []
  one_elsewhere x other = rw (ne_eqb (shard_number shift x.node) number other) refl

  -- the entries of many lists
  pub shard_entries-flat_map : {X : Type 0} (f : X → List NodeEntry) (xs : List X) → shard_entries shift number (flat_map f xs) ≡ flat_map (λ x. shard_entries shift number (f x)) xs
  shard_entries-flat_map f [] = refl
  shard_entries-flat_map f (x ∷ xs) =
      ap (shard_entries shift number) (flat_map-cons f x xs)
      ∙ shard_entries-append (f x) (flat_map f xs)
      ∙ ap (λ es. shard_entries shift number (f x) ++ es) (shard_entries-flat_map f xs)
      ∙ sym (flat_map-cons (λ y. shard_entries shift number (f y)) x xs)

  module _ (place : ℕ) (within : IsNode (2 ^ shift) place) where
    -- an entry of a node stands at the node's place
    one_in_part : (x : NodeEntry) → 1 ≤ x.node → entries_of_node (shard_entries shift number (x ∷ [])) place ≡ entries_of_node (x ∷ []) (node_at shift number place)
    one_in_part x from_one = elim (cases_eq (shard_number shift x.node) number) [
      | inr other ↦
          ap (λ es. entries_of_node es place) (one_elsewhere x other)
          ∙ sym (entries_of_node-one x (node_at shift number place) ∙ entry_if-other x.node (node_at shift number place) (entry_of x) (λ same. other (ap (shard_number shift) same ∙ number_of_node shift number place within)))
      | inl here ↦
          ap (λ es. entries_of_node es place) (one_here x here)
          ∙ entries_of_node-one (in_shard shift x) place
          ∙ elim (cases_eq (shard_place shift x.node) place) [
            | inl same ↦
                let at : x.node ≡ node_at shift number place = sym (node_at_place shift x.node from_one) ∙ ap (λ k. node_at shift k (shard_place shift x.node)) here ∙ ap (node_at shift number) same in
                ap (λ p. entry_if p place (entry_of x)) same
                ∙ entry_if-same place (entry_of x)
                ∙ sym (entries_of_node-one x (node_at shift number place) ∙ ap (λ v. entry_if v (node_at shift number place) (entry_of x)) at ∙ entry_if-same (node_at shift number place) (entry_of x))
            | inr other ↦
                entry_if-other (shard_place shift x.node) place (entry_of x) other
                ∙ sym (entries_of_node-one x (node_at shift number place) ∙ entry_if-other x.node (node_at shift number place) (entry_of x) (λ same. other (ap (shard_place shift) same ∙ place_of_node shift number place within)))
          ]
    ]

    pub entries_of_part : (es : List NodeEntry) → ((x : NodeEntry) → Contains es x → 1 ≤ x.node) → entries_of_node (shard_entries shift number es) place ≡ entries_of_node es (node_at shift number place)
    entries_of_part [] nodes = refl
    entries_of_part (x ∷ es) nodes =
        ap (λ ys. entries_of_node ys place) (shard_entries-append (x ∷ []) es)
        ∙ entries_of_node-append (shard_entries shift number (x ∷ [])) (shard_entries shift number es) place
        ∙ ap (λ ys. ys ++ entries_of_node (shard_entries shift number es) place) (one_in_part x (nodes x (Contains-first x es)))
        ∙ ap (λ ys. entries_of_node (x ∷ []) (node_at shift number place) ++ ys) (entries_of_part es (λ y there. nodes y (Contains-next x y es there)))
        ∙ sym (entries_of_node-append (x ∷ []) es (node_at shift number place))

  -- what is parts are places of the shard
  pub nodes_of_part : (n : ℕ) (es : List NodeEntry) → ((x : NodeEntry) → Contains es x → IsNode n x.node) → All (λ (e : NodeEntry). IsNode (shard_size shift n number) e.node) (shard_entries shift number es)
  nodes_of_part n [] nodes = All-nil (λ (e : NodeEntry). IsNode (shard_size shift n number) e.node)
  nodes_of_part n (x ∷ es) nodes =
      let P = λ (e : NodeEntry). IsNode (shard_size shift n number) e.node in
      let node = nodes x (Contains-first x es) in
      let rest = nodes_of_part n es (λ y there. nodes y (Contains-next x y es there)) in
      subst (All P) (sym (shard_entries-append (x ∷ []) es)) (All-append P (shard_entries shift number (x ∷ [])) (shard_entries shift number es)
      (elim (cases_eq (shard_number shift x.node) number) [
        | inr other ↦ subst (All P) (sym (one_elsewhere x other)) (All-nil P)
        | inl here ↦
            subst (All P) (sym (one_here x here))
            (All-push P [] (in_shard shift x) (All-nil P) (subst (λ k. IsNode (shard_size shift n k) (shard_place shift x.node)) here ((IsNode-dealt shift n x.node node.from_one).0 node)))
      ])
      rest)

  -- what holds of all entries holds of those of a shard, where it is said of the position and the distance alone
  pub all_in_part : (P : NodeEntry → Type 0) (es : List NodeEntry) → ((x : NodeEntry) → Contains es x → P (in_shard shift x)) → All P (shard_entries shift number es)
  all_in_part P [] each = All-nil P
  all_in_part P (x ∷ es) each =
      let rest = all_in_part P es (λ y there. each y (Contains-next x y es there)) in
      subst (All P) (sym (shard_entries-append (x ∷ []) es)) (All-append P (shard_entries shift number (x ∷ [])) (shard_entries shift number es)
      (elim (cases_eq (shard_number shift x.node) number) [
        | inr other ↦ subst (All P) (sym (one_elsewhere x other)) (All-nil P)
        | inl here ↦ subst (All P) (sym (one_here x here)) (All-push P [] (in_shard shift x) (All-nil P) (each x (Contains-first x es)))
      ])
      rest)
