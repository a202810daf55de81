-- What stands at a root among entries that were listed for roots.
use Rattle.std.proofs.Common.{◌≡◌, ◌≢◌, inl, inr, ℕ, ◌+◌, ◌<◌, ◌≤◌, ◌&&◌, List, [], ◌∷◌, ◌++◌, Contains, filter, get_or, length, map, take, refl, sym, ap, subst, ◌∙◌}
use Rattle.std.specs.Prelude.{Bool, Some, nat_lt, slice_get}
use Rattle.std.proofs.lemmas.Bool.{cases_eq, cases_lt, eq-eqb, ne_eqb, le-ltb}
use Rattle.std.proofs.Common.{lt-ltb}
use Rattle.std.proofs.lemmas.List.{append-nil, map-append, take_more}
use Rattle.std.proofs.lemmas.List.Elements.{filter-append}
use Rattle.std.proofs.lemmas.Option.{same_Some}
use Rattle.walk_laws.specs.declared.entry.Entry.{Entry}
use Rattle.walk_laws.specs.Ranking.{IsRanking, position_of}
use Rattle.walk_laws.proofs.Members.{Contains-first, Contains-next}
use Rattle.walk_laws.proofs.Positions.{slice_get-position}
use Rattle.hub_index.specs.declared.node_entry.NodeEntry.{NodeEntry}
use Rattle.hub_index.specs.NodeEntries.{entries_of_node, entry_if, entry_of}
use Rattle.hub_index.specs.Views.{IsNode}
use Rattle.hub_index.proofs.GatheredRows.{entries_of_node-append, entries_of_node-one, entry_if-other, entry_if-same}
use Rattle.label_clean.specs.declared.hub_rows.HubEntry.{HubEntry}
use Rattle.label_clean.specs.HubRows.{entries_of_hub}
use Rattle.label_clean.proofs.Cleaned.{hub_place}
use Rattle.label_clean.proofs.GatheredHubs.{entries_of_hub-append}
use Rattle.gll_table.specs.Partition.{entries_below, hub_entries, hub_entry}

pub below-append : (q : ℕ) (xs ys : List Entry) → entries_below q (xs ++ ys) ≡ entries_below q xs ++ entries_below q ys
below-append q xs ys = filter-append (λ (e : Entry). nat_lt e.pos q) xs ys

module _ (at : List ℕ) (far : ℕ) where
  -- whether an entry is listed
  abbrev is_listed : NodeEntry → Bool
  is_listed e = nat_lt (position_of at e.node) far && nat_lt e.pos (position_of at e.node)

  pub hub_entries-append : (xs ys : List NodeEntry) → hub_entries at far (xs ++ ys) ≡ hub_entries at far xs ++ hub_entries at far ys
  hub_entries-append xs ys = ap (map (hub_entry at)) (filter-append is_listed xs ys) ∙ map-append (hub_entry at) (filter is_listed xs) (filter is_listed ys)

  one_listed : (x : NodeEntry) → position_of at x.node < far → x.pos < position_of at x.node → hub_entries at far (x ∷ []) ≡ hub_entry at x ∷ []
  one_listed x near above = rw (lt-ltb (position_of at x.node) far near) (rw (lt-ltb x.pos (position_of at x.node) above) refl)

  one_far : (x : NodeEntry) → far ≤ position_of at x.node → hub_entries at far (x ∷ []) ≡ []
  one_far x past = rw (le-ltb (position_of at x.node) far past) refl

  one_own : (x : NodeEntry) → position_of at x.node < far → position_of at x.node ≤ x.pos → hub_entries at far (x ∷ []) ≡ []
  one_own x near past = rw (lt-ltb (position_of at x.node) far near) (rw (le-ltb x.pos (position_of at x.node) past) refl)

  -- one more of them is listed, or isn't
  module _ (es : List NodeEntry) (i : ℕ) (x : NodeEntry) (is : x ≡ get_or es i x) (within : i < length es) where
    next_is : hub_entries at far (take (i + 1) es) ≡ hub_entries at far (take i es) ++ hub_entries at far (x ∷ [])
    next_is = ap (hub_entries at far) (take_more es i x within) ∙ hub_entries-append (take i es) (get_or es i x ∷ []) ∙ ap (λ y. hub_entries at far (take i es) ++ hub_entries at far (y ∷ [])) (sym is)

    pub next_listed : (of : ℕ) (entry : Entry) → of ≡ position_of at x.node → entry ≡ entry_of x → of < far → x.pos < of → hub_entries at far (take (i + 1) es) ≡ hub_entries at far (take i es) ++ record { of = of; entry = entry } ∷ []
    next_listed of entry of_is entry_is near above =
        next_is
        ∙ ap (λ hs. hub_entries at far (take i es) ++ hs) (one_listed x (subst (λ p. p < far) of_is near) (subst (λ p. x.pos < p) of_is above))
        ∙ ap (λ (p : ℕ). hub_entries at far (take i es) ++ record { of = p; entry = entry_of x } ∷ []) (sym of_is)
        ∙ ap (λ (e : Entry). hub_entries at far (take i es) ++ record { of = of; entry = e } ∷ []) (sym entry_is)

    pub next_far : (of : ℕ) → of ≡ position_of at x.node → far ≤ of → hub_entries at far (take (i + 1) es) ≡ hub_entries at far (take i es)
    next_far of of_is past = next_is ∙ ap (λ hs. hub_entries at far (take i es) ++ hs) (one_far x (subst (λ p. far ≤ p) of_is past)) ∙ append-nil (hub_entries at far (take i es))

    pub next_own : (of : ℕ) → of ≡ position_of at x.node → of < far → of ≤ x.pos → hub_entries at far (take (i + 1) es) ≡ hub_entries at far (take i es)
    next_own of of_is near past =
        next_is ∙ ap (λ hs. hub_entries at far (take i es) ++ hs) (one_own x (subst (λ p. p < far) of_is near) (subst (λ p. p ≤ x.pos) of_is past)) ∙ append-nil (hub_entries at far (take i es))

  module _ (ranking : IsRanking at) (q h : ℕ) (near : q < far) (is : slice_get at q ≡ Some h) where
    place : position_of at h ≡ q
    place = hub_place at ranking q h is

    -- a node at that position is the hub
    only : (v : ℕ) → IsNode (length at) v → position_of at v ≡ q → v ≡ h
    only v node same = same_Some v h (sym (slice_get-position at v ranking node.from_one node.up_to_n) ∙ ap (slice_get at) same ∙ is)

    of_one : (x : NodeEntry) → IsNode (length at) x.node → entries_of_hub (hub_entries at far (x ∷ [])) q ≡ entries_below q (entries_of_node (x ∷ []) h)
    of_one x node = elim (cases_eq x.node h) [
      | inr other ↦
          none_of x node other ∙ sym (ap (entries_below q) (entries_of_node-one x h ∙ entry_if-other x.node h (entry_of x) other))
      | inl here ↦
          let at_q : position_of at x.node ≡ q = ap (position_of at) here ∙ place in
          let there : entries_of_node (x ∷ []) h ≡ entry_of x ∷ [] = entries_of_node-one x h ∙ ap (λ v. entry_if v h (entry_of x)) here ∙ entry_if-same h (entry_of x) in
          elim (cases_lt x.pos q) [
            | inl low ↦
                ap (λ es. entries_of_hub es q) (one_listed x (subst (λ p. p < far) (sym at_q) near) (subst (λ p. x.pos < p) (sym at_q) low))
                ∙ one_of (hub_entry at x) at_q
                ∙ sym (ap (entries_below q) there ∙ kept (entry_of x) low)
            | inr high ↦
                ap (λ es. entries_of_hub es q) (one_own x (subst (λ p. p < far) (sym at_q) near) (subst (λ p. p ≤ x.pos) (sym at_q) high))
                ∙ sym (ap (entries_below q) there ∙ left_out (entry_of x) high)
          ]
    ]
      where
        one_of : (y : HubEntry) → y.of ≡ q → entries_of_hub (y ∷ []) q ≡ y.entry ∷ []
        one_of y same = rw (eq-eqb y.of q same) refl

        none_at : (y : HubEntry) → y.of ≢ q → entries_of_hub (y ∷ []) q ≡ []
        none_at y other = rw (ne_eqb y.of q other) refl

        kept : (e : Entry) → e.pos < q → entries_below q (e ∷ []) ≡ e ∷ []
        kept e low = rw (lt-ltb e.pos q low) refl

        left_out : (e : Entry) → q ≤ e.pos → entries_below q (e ∷ []) ≡ []
        left_out e high = rw (le-ltb e.pos q high) refl

        none_of : (x : NodeEntry) → IsNode (length at) x.node → x.node ≢ h → entries_of_hub (hub_entries at far (x ∷ [])) q ≡ []
        none_of x node other = elim (cases_lt (position_of at x.node) far) [
          | inr past ↦ ap (λ es. entries_of_hub es q) (one_far x past)
          | inl near ↦ elim (cases_lt x.pos (position_of at x.node)) [
            | inr own ↦ ap (λ es. entries_of_hub es q) (one_own x near own)
            | inl above ↦ ap (λ es. entries_of_hub es q) (one_listed x near above) ∙ none_at (hub_entry at x) (λ same. other (only x.node node same))
          ]
        ]

    -- of a list
    pub listed_of_hub : (es : List NodeEntry) → ((x : NodeEntry) → Contains es x → IsNode (length at) x.node) → entries_of_hub (hub_entries at far es) q ≡ entries_below q (entries_of_node es h)
    listed_of_hub [] nodes = refl
    listed_of_hub (x ∷ es) nodes =
        ap (λ hs. entries_of_hub hs q) (hub_entries-append (x ∷ []) es)
        ∙ entries_of_hub-append (hub_entries at far (x ∷ [])) (hub_entries at far es) q
        ∙ ap (λ ys. ys ++ entries_of_hub (hub_entries at far es) q) (of_one x (nodes x (Contains-first x es)))
        ∙ ap (λ ys. entries_below q (entries_of_node (x ∷ []) h) ++ ys) (listed_of_hub es (λ y there. nodes y (Contains-next x y es there)))
        ∙ sym (ap (entries_below q) (entries_of_node-append (x ∷ []) es h) ∙ below-append q (entries_of_node (x ∷ []) h) (entries_of_node es h))
