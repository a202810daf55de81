-- The tree of one root over rows that have exactly the hubs before it: they then have exactly those up to it.
use Rattle.std.proofs.Common.{◌≡◌, inl, inr, ℕ, ◌+◌, ◌<◌, List, [], ◌∷◌, ◌++◌, Contains, length, map, sym, ap, subst, ◌∙◌, arith}
use Rattle.std.specs.Prelude.{Some, slice_get, Result, IsOk}
use Rattle.std.specs.declared.alloc.AllocError.{AllocError}
use Rattle.std.proofs.lemmas.Bool.{cases_lt}
use Rattle.std.proofs.lemmas.List.{length-append}
use Rattle.std.proofs.lemmas.List.Elements.{All-map, All-weaker, All-contains_itself, Contains-append_left, Contains-append_right, Contains-append_cases}
use Rattle.std.proofs.lemmas.List.Kept.{AllPairs-from_increasing, AllPairs-cons}
use Rattle.walk_laws.specs.declared.graph.Edge.{Edge}
use Rattle.walk_laws.specs.declared.entry.Entry.{Entry}
use Rattle.walk_laws.specs.Graph.{IsGraph}
use Rattle.walk_laws.specs.Joined.{Joined}
use Rattle.walk_laws.specs.Ranking.{IsRanking}
use Rattle.walk_laws.specs.Labelling.{IsHubEntry}
use Rattle.walk_laws.proofs.LabelRows.{Rises, Rises-first, Rises-rest}
use Rattle.walk_laws.proofs.Members.{Contains-first, Contains-next, Contains-cons_cases, Contains-empty}
use Rattle.walk_laws.proofs.ShortWalks.{HasWalk-node}
use Rattle.hub_index.specs.Views.{IsNode}
use Rattle.label_clean.specs.Below.{IsRowBelow}
use Rattle.pruned_tree.specs.Grown.{Gains, HoldsHigher, IsGrown}
use Rattle.pruned_tree.proofs.GrownPuts.{pos_of, when_ok}
use Rattle.pruned_tree.proofs.TreeRounds.{root_node}

-- a rising row with an entry after it whose position is above all others
Rises-after : (xs : List Entry) (e : Entry) → Rises pos_of xs → ((x : Entry) → Contains xs x → x.pos < e.pos) → Rises pos_of (xs ++ e ∷ [])
Rises-after [] e up above = λ i j d lt within. absurd (omega (arith, lt, within))
Rises-after (x ∷ xs) e up above =
    AllPairs-cons (λ a b. a < b) x.pos (map pos_of (xs ++ e ∷ []))
    (All-map (λ q. x.pos < q) pos_of (xs ++ e ∷ []) (All-weaker (Contains (xs ++ e ∷ [])) (λ (y : Entry). x.pos < y.pos) later (xs ++ e ∷ []) (All-contains_itself (xs ++ e ∷ []))))
    (Rises-after xs e (Rises-rest pos_of x xs up) (λ y there. above y (Contains-next x y xs there)))
  where
    later : (y : Entry) → Contains (xs ++ e ∷ []) y → x.pos < y.pos
    later y there = elim (Contains-append_cases xs (e ∷ []) y there) [
      | inl here ↦ Rises-first pos_of x y xs up here
      | inr last ↦ elim (Contains-cons_cases e y [] last) [
        | inl is ↦ subst (λ (z : Entry). x.pos < z.pos) is (above x (Contains-first x xs))
        | inr none ↦ absurd (Contains-empty y none)
      ]
    ]

-- a row with an entry more is another
not_longer : (xs : List Entry) (e : Entry) → xs ++ e ∷ [] ≡ xs → ⊥
not_longer xs e same = omega (arith, length-append xs (e ∷ []), ap length same)

module _ (n : ℕ) (edges : List Edge) (at : List ℕ) (graph : IsGraph n edges) (ranking : IsRanking at) (size : length at ≡ n) (p : ℕ) (before : ℕ → List Entry) (are : (v : ℕ) → IsNode (length at) v → IsRowBelow edges at p v (before v)) where
  -- what has a hub is a node
  hub_of_node : (v : ℕ) (e : Entry) → IsHubEntry (Joined edges) at v e → IsNode (length at) v
  hub_of_node v e hub =
      let root = root_node at hub.0 e.pos ranking hub.1 in
      let node = HasWalk-node n edges graph.edge hub.0 v e.dist root.0 (omega (arith, root.1, size)) hub.2.least.walk in
      record { from_one = node.0; up_to_n = omega (arith, node.1, size) }

  -- so all hubs before the root are found
  holds_higher : HoldsHigher (Joined edges) at p before
  holds_higher v e from_one above hub = ((are v (hub_of_node v e hub)).each e).1 (hub, above)

  module _ (after : ℕ → List Entry) (result : Result ℕ AllocError) (ok : IsOk result) (grown : IsGrown edges at p before before after result) (v : ℕ) (node : IsNode (length at) v) where
    gained : (e : Entry) → IsHubEntry (Joined edges) at v e → e.pos ≡ p → Gains before after p v e.dist
    gained e hub is = when_ok result _ ok grown.complete hub.0 v e.dist (subst (λ q. slice_get at q ≡ Some hub.0) is hub.1) hub.2

    -- a row that gained nothing lacks no hub
    row_stays : after v ≡ before v → IsRowBelow edges at (p + 1) v (after v)
    row_stays same =
        let row = are v node in
        subst (IsRowBelow edges at (p + 1) v) (sym same) (record {
          rising = row.rising;
          each = λ e. (
            λ here. let known = (row.each e).0 here in (known.0, omega (arith, known.1)),
            λ hub. elim (cases_lt e.pos p) [
              | inl earlier ↦ (row.each e).1 (hub.0, earlier)
              | inr from ↦ absurd (not_longer (before v) (record { pos = p; dist = e.dist }) (sym (gained e hub.0 (omega (arith, from, hub.1))) ∙ same))
            ],
          );
        })

    module _ (d : ℕ) (gains : Gains before after p v d) where
      abbrev entry : Entry
      entry = record { pos = p; dist = d }

      is_hub : IsHubEntry (Joined edges) at v entry
      is_hub =
          let walk = (grown.pruned.fits v d node.from_one gains).walk in
          (walk.0, walk.1, when_ok result _ ok grown.exact holds_higher walk.0 v d walk.1 node.from_one gains)

      row_with : IsRowBelow edges at (p + 1) v (before v ++ entry ∷ [])
      row_with =
          let row = are v node in
          record {
            rising = λ k inside. Rises-after (before v) entry (AllPairs-from_increasing (map pos_of (before v)) row.rising) (λ x there. ((row.each x).0 there).1) k (k + 1) 0 (omega arith) inside;
            each = λ e. (
              λ there. elim (Contains-append_cases (before v) (entry ∷ []) e there) [
                | inl here ↦ let known = (row.each e).0 here in (known.0, omega (arith, known.1))
                | inr last ↦ elim (Contains-cons_cases entry e [] last) [
                  | inl is ↦ subst (λ x. IsHubEntry (Joined edges) at v x × (x.pos < p + 1)) is (is_hub, omega arith)
                  | inr none ↦ absurd (Contains-empty e none)
                ]
              ],
              λ hub. elim (cases_lt e.pos p) [
                | inl earlier ↦ Contains-append_left (before v) (entry ∷ []) e ((row.each e).1 (hub.0, earlier))
                | inr from ↦ put_here e hub.0 (omega (arith, from, hub.1))
              ],
            );
          }
        where
          -- the one entry that the node gained is that of its hub
          put_here : (e : Entry) → IsHubEntry (Joined edges) at v e → e.pos ≡ p → Contains (before v ++ entry ∷ []) e
          put_here e hub is =
              let own : record { pos = p; dist = e.dist } ≡ e = ap (λ q. record { pos = q; dist = e.dist }) (sym is) in
              let there : Contains (before v ++ record { pos = p; dist = e.dist } ∷ []) (record { pos = p; dist = e.dist }) = Contains-append_right (before v) (record { pos = p; dist = e.dist } ∷ []) (record { pos = p; dist = e.dist }) (Contains-first (record { pos = p; dist = e.dist }) []) in
              subst (Contains (before v ++ entry ∷ [])) own (subst (λ row. Contains row (record { pos = p; dist = e.dist })) (sym (gained e hub is) ∙ gains) there)

      row_gains : IsRowBelow edges at (p + 1) v (after v)
      row_gains = subst (IsRowBelow edges at (p + 1) v) (sym gains) row_with

    -- the row has then exactly the hubs up to the root
    pub IsRowBelow-grown : IsRowBelow edges at (p + 1) v (after v)
    IsRowBelow-grown = elim (grown.pruned.one v node.from_one) [ inl same ↦ row_stays same | inr got ↦ row_gains got.0 got.1 ]
