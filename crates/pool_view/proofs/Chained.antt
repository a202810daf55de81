-- Chains through a list of entries, and what a walk of one finds.
use Rattle.std.proofs.Common.{◌≡◌, ◌≢◌, ◌↔◌, true, true≢false, nat_eq, ℕ, ◌+◌, ◌-◌, ◌<◌, ◌≤◌, inl, inr, List, [], ◌∷◌, ◌++◌, length, get_or, set, take, reverse, sym, ap, subst, ◌∙◌, arith}
use Rattle.std.proofs.Math.ListN.{length-set}
use Rattle.std.proofs.lemmas.Bool.{cases_lt, cases_eq}
use Rattle.std.proofs.lemmas.Bool.Decides.{eqb_tells}
use Rattle.std.proofs.lemmas.List.{append-nil, get_or_default, get_or_push, get_or-set_same, get_or-set_other, length-append, reverse-append, reverse-reverse, take_all}
use Rattle.walk_laws.specs.declared.entry.Entry.{Entry}
use Rattle.hub_index.specs.declared.node_entry.NodeEntry.{NodeEntry}
use Rattle.hub_index.specs.NodeEntries.{entries_of_node, entry_if, entry_of}
use Rattle.hub_index.specs.Views.{IsNode}
use Rattle.hub_index.proofs.GatheredRows.{entries_of_node-more, entry_if-other, entry_if-same}
use Rattle.pool_view.specs.declared.chains.Chains.{Chains}
use Rattle.pool_view.specs.Chains.{AreChained, AreEmpty, head_of}
use Rattle.pool_view.specs.Links.{IsChain}
use Rattle.pool_view.proofs.Linked.{IsChain-more, no_more}

-- one more entry is chained
module _ (entries : List NodeEntry) (many : ℕ) (d : NodeEntry) (node : ℕ) (old new : Chains) (within : many < length entries) (is : (get_or entries many d).node ≡ node) (place : IsNode (length old.heads.items) node) (chained : AreChained entries many old) (nexts_are : new.nexts.items ≡ old.nexts.items ++ head_of old node ∷ []) (heads_are : new.heads.items ≡ set old.heads.items (node - 1) (many + 1)) where
  abbrev it : Entry
  it = entry_of (get_or entries many d)

  abbrev so_many : ℕ → List Entry
  so_many v = entries_of_node (take many entries) v

  size : length new.heads.items ≡ length old.heads.items
  size = ap length heads_are ∙ length-set old.heads.items (node - 1) (many + 1)

  more : (v : ℕ) → entries_of_node (take (many + 1) entries) v ≡ so_many v ++ entry_if node v it
  more v = entries_of_node-more entries many v d within ∙ ap (λ u. so_many v ++ entry_if u v it) is

  entries_here : reverse (entries_of_node (take (many + 1) entries) node) ≡ it ∷ reverse (so_many node)
  entries_here = ap reverse (more node ∙ ap (λ es. so_many node ++ es) (entry_if-same node it)) ∙ reverse-append (so_many node) (it ∷ [])

  entries_else : (v : ℕ) → v ≢ node → reverse (entries_of_node (take (many + 1) entries) v) ≡ reverse (so_many v)
  entries_else v other = ap reverse (more v ∙ ap (λ es. so_many v ++ es) (entry_if-other node v it (λ same. other (sym same))) ∙ append-nil (so_many v))

  head_here : head_of new node ≡ many + 1
  head_here = ap (λ hs. get_or hs (node - 1) 0) heads_are ∙ get_or-set_same old.heads.items (node - 1) (many + 1) 0 (omega (arith, place.from_one, place.up_to_n))

  head_else : (v : ℕ) → 1 ≤ v → v ≢ node → head_of new v ≡ head_of old v
  head_else v from_one other = ap (λ hs. get_or hs (v - 1) 0) heads_are ∙ get_or-set_other old.heads.items (node - 1) (v - 1) (many + 1) 0 (λ same. other (omega (arith, same, from_one, place.from_one)))

  head_small : head_of old node ≤ many
  head_small = elim (cases_lt (head_of old node) 1) [ inl none ↦ omega (arith, none) | inr some ↦ (chained.head node d place some).0 ]

  abbrev links : List ℕ
  links = old.nexts.items ++ head_of old node ∷ []

  last_link : get_or links (many + 1 - 1) 0 ≡ head_of old node
  last_link = let same : length old.nexts.items ≡ many + 1 - 1 = omega (arith, chained.count) in get_or_push old.nexts.items (head_of old node) 0 (many + 1 - 1) same

  chain_here : IsChain entries links (many + 1) (it ∷ reverse (so_many node))
  chain_here = (
    record {
      from_one = omega arith;
      within = omega (arith, chained.count, length-append old.nexts.items (head_of old node ∷ []));
      back = omega (arith, last_link, head_small);
      entry_is = λ x. let same : many + 1 - 1 ≡ many = omega arith in ap (λ k. entry_of (get_or entries k x)) same ∙ ap (λ (y : NodeEntry). entry_of y) (get_or_default entries many x d within);
    },
    subst (λ k. IsChain entries links k (reverse (so_many node))) (sym last_link) (IsChain-more entries old.nexts.items (head_of old node) (head_of old node) (reverse (so_many node)) (chained.chain node place)),
  )

  was : (v : ℕ) → IsNode (length new.heads.items) v → IsNode (length old.heads.items) v
  was v v_in = subst (λ n. IsNode n v) size v_in

  pub AreChained-put : AreChained entries (many + 1) new
  AreChained-put = record {
    count = ap length nexts_are ∙ length-append old.nexts.items (head_of old node ∷ []) ∙ ap (λ k. k + 1) chained.count;
    within = omega (arith, within);
    chain = λ v v_in. subst (λ ns. IsChain entries ns (head_of new v) (reverse (entries_of_node (take (many + 1) entries) v))) (sym nexts_are) (elim (cases_eq v node) [
      | inl same ↦
          subst (λ u. IsChain entries links (head_of new u) (reverse (entries_of_node (take (many + 1) entries) u))) (sym same)
          (subst (λ k. IsChain entries links k (reverse (entries_of_node (take (many + 1) entries) node))) (sym head_here) (subst (IsChain entries links (many + 1)) (sym entries_here) chain_here))
      | inr other ↦
          subst (λ k. IsChain entries links k (reverse (entries_of_node (take (many + 1) entries) v))) (sym (head_else v v_in.from_one other))
          (subst (IsChain entries links (head_of old v)) (sym (entries_else v other)) (IsChain-more entries old.nexts.items (head_of old node) (head_of old v) (reverse (so_many v)) (chained.chain v (was v v_in))))
    ]);
    head = λ v x v_in some. elim (cases_eq v node) [
      | inl same ↦
          let now : head_of new v ≡ many + 1 = ap (head_of new) same ∙ head_here in
          let at : head_of new v - 1 ≡ many = omega (arith, now) in (omega (arith, now), ap (λ k. (get_or entries k x).node) at ∙ ap (λ (y : NodeEntry). y.node) (get_or_default entries many x d within) ∙ is ∙ sym same)
      | inr other ↦
          let now = head_else v v_in.from_one other in
          let known = chained.head v x (was v v_in) (omega (arith, now, some)) in (omega (arith, now, known.0), ap (λ k. (get_or entries (k - 1) x).node) now ∙ known.1)
    ];
  }

-- no entry is chained yet
pub AreChained-none : (entries : List NodeEntry) (chains : Chains) → AreEmpty (length chains.heads.items) chains → chains.nexts.items ≡ [] → AreChained entries 0 chains
AreChained-none entries chains empty none = record {
  count = ap length none;
  within = omega arith;
  chain = λ v v_in. empty.none (v - 1) (omega (arith, v_in.from_one, v_in.up_to_n));
  head = λ v x v_in some. let is = empty.none (v - 1) (omega (arith, v_in.from_one, v_in.up_to_n)) in absurd (omega (arith, is, some));
}

-- all entries are chained
pub whole_chain : (entries : List NodeEntry) (chains : Chains) → AreChained entries (length entries) chains → (v : ℕ) → IsNode (length chains.heads.items) v → IsChain entries chains.nexts.items (head_of chains v) (reverse (entries_of_node entries v))
whole_chain entries chains chained v v_in =
    subst (λ es. IsChain entries chains.nexts.items (head_of chains v) (reverse (entries_of_node es v))) (take_all (length entries) entries (omega arith)) (chained.chain v v_in)

-- whether there is an entry is to be seen by the head
pub head_tells : (entries : List NodeEntry) (chains : Chains) → AreChained entries (length entries) chains → (v : ℕ) → IsNode (length chains.heads.items) v → nat_eq (head_of chains v) 0 ≡ true ↔ (entries_of_node entries v ≡ [])
head_tells entries chains chained v v_in =
    let row = entries_of_node entries v in
    let chain = whole_chain entries chains chained v v_in in
    elim (eqb_tells (head_of chains v) 0) [
      | inl end ↦ (λ _. sym (reverse-reverse row) ∙ ap reverse (no_more entries chains.nexts.items (head_of chains v) (reverse row) chain (omega (arith, end.1))), λ _. end.0)
      | inr on ↦ (λ is. absurd (true≢false (sym is ∙ on.0)), λ none. absurd (on.1 (subst (λ es. IsChain entries chains.nexts.items (head_of chains v) (reverse es)) none chain)))
    ]

pub head_within : (entries : List NodeEntry) (many : ℕ) (chains : Chains) → AreChained entries many chains → (v : ℕ) → IsNode (length chains.heads.items) v → head_of chains v ≤ many
head_within entries many chains chained v v_in = elim (cases_lt (head_of chains v) 1) [
  | inl none ↦ omega (arith, none)
  | inr some ↦ (chained.head v (record { node = 0; pos = 0; dist = 0 }) v_in some).0
]

-- the last entry of no other node stands at the place of a node's last one
pub only_here : (entries : List NodeEntry) (many : ℕ) (chains : Chains) → AreChained entries many chains → (k : ℕ) (d : NodeEntry) (v : ℕ) → IsNode (length chains.heads.items) v → head_of chains v ≡ k + 1 → v ≡ (get_or entries k d).node
only_here entries many chains chained k d v v_in is =
    let known = chained.head v d v_in (omega (arith, is)) in
    let place : head_of chains v - 1 ≡ k = omega (arith, is) in
    sym known.1 ∙ ap (λ i. (get_or entries i d).node) place

-- chains are emptied, entry by entry: what is left of a chain has its head from the place on
pub record AreEmptied (entries : List NodeEntry) (before : Chains) (k : ℕ) (chains : Chains) : Type 0 where
  pub size : length chains.heads.items ≡ length before.heads.items
  pub left : (v : ℕ) → IsNode (length before.heads.items) v → 1 ≤ head_of chains v → (k < head_of chains v) × (head_of chains v ≡ head_of before v)

module _ (entries : List NodeEntry) (before : Chains) (chained : AreChained entries (length entries) before) where
  pub AreEmptied-none : (chains : Chains) → chains ≡ before → AreEmptied entries before 0 chains
  AreEmptied-none chains same = record {
    size = ap (λ (c : Chains). length c.heads.items) same;
    left = λ v v_in some. (omega (arith, some), ap (λ c. head_of c v) same);
  }

  pub AreEmptied-more : (k : ℕ) (d : NodeEntry) (chains after : Chains) → k < length entries → IsNode (length before.heads.items) (get_or entries k d).node → AreEmptied entries before k chains → after.heads.items ≡ set chains.heads.items ((get_or entries k d).node - 1) 0 → AreEmptied entries before (k + 1) after
  AreEmptied-more k d chains after within node_in so_far are = record { size = ap length are ∙ length-set chains.heads.items (node - 1) 0 ∙ so_far.size; left = left }
    where
      node : ℕ
      node = (get_or entries k d).node

      left : (v : ℕ) → IsNode (length before.heads.items) v → 1 ≤ head_of after v → (k + 1 < head_of after v) × (head_of after v ≡ head_of before v)
      left v v_in some = elim (cases_eq v node) [
        | inl same ↦
            let gone : head_of after v ≡ 0 = ap (λ hs. get_or hs (v - 1) 0) are ∙ ap (λ u. get_or (set chains.heads.items (node - 1) 0) (u - 1) 0) same ∙ get_or-set_same chains.heads.items (node - 1) 0 0 (omega (arith, node_in.from_one, node_in.up_to_n, so_far.size)) in
            absurd (omega (arith, gone, some))
        | inr other ↦
            let stays : head_of after v ≡ head_of chains v = ap (λ hs. get_or hs (v - 1) 0) are ∙ get_or-set_other chains.heads.items (node - 1) (v - 1) 0 0 (λ same. other (omega (arith, same, v_in.from_one, node_in.from_one))) in
            let known = so_far.left v v_in (omega (arith, stays, some)) in
            elim (cases_eq (head_of before v) (k + 1)) [
              | inl is ↦ absurd (other (only_here entries (length entries) before chained k d v v_in is))
              | inr apart ↦ (omega (arith, stays, known.0, known.1, apart), stays ∙ known.1)
            ]
      ]

  -- in the end all are empty
  pub AreEmpty-emptied : (k : ℕ) (chains : Chains) → length entries ≤ k → AreEmptied entries before k chains → AreEmpty (length before.heads.items) chains
  AreEmpty-emptied k chains over all = record {
    size = all.size;
    none = λ i i_in. elim (cases_lt (get_or chains.heads.items i 0) 1) [
      | inl zero ↦ omega (arith, zero)
      | inr some ↦
          let v_in : IsNode (length before.heads.items) (i + 1) = record { from_one = omega arith; up_to_n = omega (arith, i_in) } in
          let place : i + 1 - 1 ≡ i = omega arith in
          let head : head_of chains (i + 1) ≡ get_or chains.heads.items i 0 = ap (λ j. get_or chains.heads.items j 0) place in
          let known = all.left (i + 1) v_in (omega (arith, head, some)) in
          let d : NodeEntry = record { node = 0; pos = 0; dist = 0 } in
          absurd (omega (arith, over, known.0, known.1, (chained.head (i + 1) d v_in (omega (arith, known.0, known.1))).0))
    ];
  }
