-- Entries of nodes among those of several, and rows that are sorted one after another.
use Rattle.std.proofs.Common.{◌≡◌, ◌≢◌, ℕ, ◌+◌, ◌-◌, ◌<◌, ◌≤◌, List, [], ◌∷◌, ◌++◌, map, filter, length, take, get_or, set, refl, sym, ap, subst, ◌∙◌, inl, inr, arith, Global}
use Rattle.std.specs.Prelude.{Vec, ◌==◌}
use Rattle.std.specs.List.Sorted.{IsNonDecreasingBy, IsPermutation}
use Rattle.std.proofs.lemmas.Bool.{cases_lt, cases_eq, eq-eqb, ne_eqb}
use Rattle.std.proofs.lemmas.Bool.Decides.{eqb_tells}
use Rattle.std.proofs.lemmas.List.{take_more, map-append, map-set, length-map, get_or-map, get_or-set_same, get_or-set_other}
use Rattle.std.proofs.lemmas.List.Elements.{filter-append}
use Rattle.walk_laws.specs.declared.entry.Entry.{Entry}
use Rattle.walk_laws.specs.Labelling.{label_row}
use Rattle.hub_index.specs.declared.node_entry.NodeEntry.{NodeEntry}
use Rattle.hub_index.specs.NodeEntries.{entries_of_node, entry_if, entry_of, IsGatheredRow}
use Rattle.hub_index.proofs.RowItems.{items_of}

pub entries_of_node-append : (xs ys : List NodeEntry) (v : ℕ) → entries_of_node (xs ++ ys) v ≡ entries_of_node xs v ++ entries_of_node ys v
entries_of_node-append xs ys v =
    ap (map (λ (e : NodeEntry). entry_of e)) (filter-append (λ (e : NodeEntry). e.node == v) xs ys)
    ∙ map-append (λ (e : NodeEntry). entry_of e) (filter (λ (e : NodeEntry). e.node == v) xs) (filter (λ (e : NodeEntry). e.node == v) ys)

pub entries_of_node-one : (e : NodeEntry) (v : ℕ) → entries_of_node (e ∷ []) v ≡ entry_if e.node v (entry_of e)
entries_of_node-one e v = elim (eqb_tells e.node v) [ inl same ↦ rw same.0 refl | inr other ↦ rw other.0 refl ]

pub entry_if-same : (v : ℕ) (e : Entry) → entry_if v v e ≡ e ∷ []
entry_if-same v e = rw (eq-eqb v v refl) refl

pub entry_if-other : (node v : ℕ) (e : Entry) → node ≢ v → entry_if node v e ≡ []
entry_if-other node v e other = rw (ne_eqb node v other) refl

-- one more entry of a range
pub entries_of_node-more : (entries : List NodeEntry) (i v : ℕ) (d : NodeEntry) → i < length entries → entries_of_node (take (i + 1) entries) v ≡ entries_of_node (take i entries) v ++ entry_if (get_or entries i d).node v (entry_of (get_or entries i d))
entries_of_node-more entries i v d lt =
    ap (λ es. entries_of_node es v) (take_more entries i d lt)
    ∙ entries_of_node-append (take i entries) (get_or entries i d ∷ []) v
    ∙ ap (λ es. entries_of_node (take i entries) v ++ es) (entries_of_node-one (get_or entries i d) v)

-- one more row is sorted
pub row_now : (rows : List (Vec Entry Global)) (k : ℕ) (new : Vec Entry Global) → k < length rows → label_row (items_of (set rows k new)) (k + 1) ≡ new.items
row_now rows k new lt =
    let same : k + 1 - 1 ≡ k = omega arith in
    ap (λ i. get_or (items_of (set rows k new)) i []) same ∙ ap (λ rs. get_or rs k []) (map-set (λ (r : Vec Entry Global). r.items) rows k new) ∙ get_or-set_same (items_of rows) k new.items [] (omega (arith, length-map rows (λ (r : Vec Entry Global). r.items)))

pub row_before : (rows : List (Vec Entry Global)) (k : ℕ) (old : Vec Entry Global) → k < length rows → old ≡ get_or rows k old → label_row (items_of rows) (k + 1) ≡ old.items
row_before rows k old lt is =
    let same : k + 1 - 1 ≡ k = omega arith in
    ap (λ i. get_or (items_of rows) i []) same ∙ get_or-map (λ (r : Vec Entry Global). r.items) rows k old [] lt ∙ ap (λ (r : Vec Entry Global). r.items) (sym is)

pub row_other : (rows : List (Vec Entry Global)) (k v : ℕ) (new : Vec Entry Global) → 1 ≤ v → v ≢ k + 1 → label_row (items_of (set rows k new)) v ≡ label_row (items_of rows) v
row_other rows k v new from_one other = ap (λ rs. get_or rs (v - 1) []) (map-set (λ (r : Vec Entry Global). r.items) rows k new) ∙ get_or-set_other (items_of rows) k (v - 1) new.items [] (λ same. other (omega (arith, same)))

abbrev pos_of : Entry → ℕ
pos_of e = e.pos

pub sorted_next : (old : List (List Entry)) (rows : List (Vec Entry Global)) (k : ℕ) (before new : Vec Entry Global) → k < length rows → before ≡ get_or rows k before → IsPermutation before.items new.items → IsNonDecreasingBy pos_of new.items → ((v : ℕ) → 1 ≤ v → v ≤ k → IsGatheredRow (label_row old v) (label_row (items_of rows) v)) → ((v : ℕ) → k < v → label_row (items_of rows) v ≡ label_row old v) → (v : ℕ) → 1 ≤ v → v ≤ k + 1 → IsGatheredRow (label_row old v) (label_row (items_of (set rows k new)) v)
sorted_next old rows k before new lt is moved rising sorted others v from_one up_to = elim (cases_eq v (k + 1)) [
  | inl here ↦
      let now = row_now rows k new lt in
      let was : label_row old (k + 1) ≡ before.items = sym (others (k + 1) (omega arith)) ∙ row_before rows k before lt is in
      let next : IsGatheredRow (label_row old (k + 1)) (label_row (items_of (set rows k new)) (k + 1)) = record {
        rising = subst (IsNonDecreasingBy pos_of) (sym now) rising;
        same = subst (λ xs. IsPermutation xs (label_row (items_of (set rows k new)) (k + 1))) (sym was) (subst (IsPermutation before.items) (sym now) moved);
      } in
      subst (λ x. IsGatheredRow (label_row old x) (label_row (items_of (set rows k new)) x)) (sym here) next
  | inr other ↦ subst (IsGatheredRow (label_row old v)) (sym (row_other rows k v new from_one other)) (sorted v from_one (omega (arith, up_to, le_of_other v k up_to other)))
]
  where
    le_of_other : (v k : ℕ) → v ≤ k + 1 → v ≢ k + 1 → v ≤ k
    le_of_other v k le other = elim (cases_lt v (k + 1)) [ inl lt ↦ omega arith | inr ge ↦ absurd (other (omega arith)) ]
