-- The own rows of a worker: those of what it kept, and what one entry more changes.
use Rattle.std.proofs.Common.{◌≡◌, inl, inr, true, ℕ, ◌+◌, ◌-◌, ◌<◌, ◌≤◌, List, [], ◌∷◌, ◌++◌, append_assoc, All, length, get_or, replicate, reverse, take, refl, sym, ap, subst, ◌∙◌, arith}
use Rattle.std.specs.Prelude.{Result, Ok, Err, OnErr, is_err}
use Rattle.std.proofs.Math.ListN.{length-set}
use Rattle.std.proofs.Math.Seq.{take-append_seam}
use Rattle.std.proofs.lemmas.Bool.{cases_eq}
use Rattle.std.proofs.lemmas.List.{append-nil, get_or-replicate, get_or_append_left, get_or_push, length-append, length-replicate, length_push, take_all}
use Rattle.std.proofs.lemmas.List.Elements.{All-head, All-push, All-tail}
use Rattle.walk_laws.specs.declared.entry.Entry.{Entry}
use Rattle.walk_laws.specs.Labelling.{label_row}
use Rattle.hub_index.specs.declared.node_entry.NodeEntry.{NodeEntry}
use Rattle.hub_index.specs.HubIndex.{with_entry}
use Rattle.hub_index.specs.NodeEntries.{entries_of_node, entry_if, entry_of}
use Rattle.hub_index.specs.Views.{IsNode}
use Rattle.hub_index.proofs.GatheredRows.{entries_of_node-append, entries_of_node-one, entry_if-same, entry_if-other}
use Rattle.hub_index.proofs.RowsGathered.{row_gains, row_stays}
use Rattle.pool_view.specs.declared.chains.Chains.{Chains}
use Rattle.pool_view.specs.Chains.{AreChained, head_of}
use Rattle.pool_view.specs.Links.{IsChain}
use Rattle.pool_view.specs.Putting.{AreKept, Putting, listed, own_rows, rows_with}

pub length-rows_with : (rows : List (List Entry)) (es : List NodeEntry) → length (rows_with rows es) ≡ length rows
length-rows_with rows [] = refl
length-rows_with rows (e ∷ es) = length-rows_with (with_entry rows e.node (entry_of e)) es ∙ length-set rows (e.node - 1) _

rows_with-push : (rows : List (List Entry)) (es : List NodeEntry) (e : NodeEntry) → rows_with rows (es ++ e ∷ []) ≡ with_entry (rows_with rows es) e.node (entry_of e)
rows_with-push rows [] e = refl
rows_with-push rows (x ∷ es) e = rows_with-push (with_entry rows x.node (entry_of x)) es e

-- one entry more, at a node or at another
row_with-one : (rows : List (List Entry)) (e : NodeEntry) (v : ℕ) → IsNode (length rows) e.node → 1 ≤ v → label_row (with_entry rows e.node (entry_of e)) v ≡ label_row rows v ++ entry_if e.node v (entry_of e)
row_with-one rows e v node from_one =
    let x = entry_of e in
    elim (cases_eq v e.node) [
      | inl here ↦
          subst (λ u. label_row (with_entry rows e.node x) u ≡ label_row rows u ++ entry_if e.node u x) (sym here)
          (row_gains rows e.node x node.from_one node.up_to_n ∙ ap (λ xs. label_row rows e.node ++ xs) (sym (entry_if-same e.node x)))
      | inr other ↦
          row_stays rows e.node v x node.from_one from_one other
          ∙ sym (ap (λ xs. label_row rows v ++ xs) (entry_if-other e.node v x (λ same. other (sym same))) ∙ append-nil (label_row rows v))
    ]

row_with : (rows : List (List Entry)) (es : List NodeEntry) (v : ℕ) → All (λ e. IsNode (length rows) e.node) es → 1 ≤ v → label_row (rows_with rows es) v ≡ label_row rows v ++ entries_of_node es v
row_with rows [] v nodes from_one = sym (append-nil (label_row rows v))
row_with rows (e ∷ es) v nodes from_one =
    let there : IsNode (length rows) e.node = All-head (λ (x : NodeEntry). IsNode (length rows) x.node) e es nodes in
    let others : All (λ (x : NodeEntry). IsNode (length rows) x.node) es = All-tail (λ (x : NodeEntry). IsNode (length rows) x.node) e es nodes in
    let now = with_entry rows e.node (entry_of e) in
    let here = entry_if e.node v (entry_of e) in
    row_with now es v (subst (λ n. All (λ (x : NodeEntry). IsNode n x.node) es) (sym (length-set rows (e.node - 1) _)) others) from_one
    ∙ ap (λ xs. xs ++ entries_of_node es v) (row_with-one rows e v there from_one)
    ∙ append_assoc (label_row rows v) here (entries_of_node es v)
    ∙ ap (λ xs. label_row rows v ++ xs) (sym (entries_of_node-append (e ∷ []) es v ∙ ap (λ xs. xs ++ entries_of_node es v) (entries_of_node-one e v)))

module _ (puts : Putting) where
  abbrev none : List (List Entry)
  none = replicate puts.n []

  long : length none ≡ puts.n
  long = length-replicate {A = List Entry} puts.n []

  pub length-own : length (own_rows puts) ≡ puts.n
  length-own = length-rows_with none puts.kept ∙ long

  pub own_row : All (λ e. IsNode puts.n e.node) puts.kept → (v : ℕ) → IsNode puts.n v → label_row (own_rows puts) v ≡ entries_of_node puts.kept v
  own_row nodes v node =
      row_with none puts.kept v (subst (λ n. All (λ (x : NodeEntry). IsNode n x.node) puts.kept) (sym long) nodes) node.from_one
      ∙ ap (λ xs. xs ++ entries_of_node puts.kept v) (get_or-replicate puts.n (v - 1) [] [] (omega (arith, node.from_one, node.up_to_n)))

  pub own-none : puts.kept ≡ [] → own_rows puts ≡ none
  own-none is = ap (rows_with none) is

  pub own-more : (v : ℕ) (e : Entry) → own_rows (record puts { kept = listed puts.kept v e }) ≡ with_entry (own_rows puts) v e
  own-more v e = rows_with-push none puts.kept (record { node = v; pos = e.pos; dist = e.dist })

-- chains go on where the list goes on
module _ (entries more : List NodeEntry) (nexts : List ℕ) (all : length nexts ≤ length entries) where
  IsChain-longer : (link : ℕ) (es : List Entry) → IsChain entries nexts link es → IsChain (entries ++ more) nexts link es
  IsChain-longer link [] is = is
  IsChain-longer link (e ∷ es) is =
      let here = is.0 in (
        record {
          from_one = here.from_one;
          within = here.within;
          back = here.back;
          entry_is = λ d. ap (λ (x : NodeEntry). entry_of x) (get_or_append_left entries more d (link - 1) (omega (arith, here.from_one, here.within, all))) ∙ here.entry_is d;
        },
        IsChain-longer (get_or nexts (link - 1) 0) es is.1,
      )

pub AreChained-longer : (entries more : List NodeEntry) (chains : Chains) → AreChained entries (length entries) chains → AreChained (entries ++ more) (length entries) chains
AreChained-longer entries more chains chained =
    let same : take (length entries) (entries ++ more) ≡ take (length entries) entries = take-append_seam entries more ∙ sym (take_all (length entries) entries (omega arith)) in
    record {
      count = chained.count;
      within = omega (arith, length-append entries more);
      chain = λ v node. subst (λ xs. IsChain (entries ++ more) chains.nexts.items (head_of chains v) (reverse (entries_of_node xs v))) (sym same)
          (IsChain-longer entries more chains.nexts.items (omega (arith, chained.count)) (head_of chains v) (reverse (entries_of_node (take (length entries) entries) v)) (chained.chain v node));
      head = λ v d node some.
          let known = chained.head v d node some in
          (known.0, ap (λ (x : NodeEntry). x.node) (get_or_append_left entries more d (head_of chains v - 1) (omega (arith, some, known.0))) ∙ known.1);
    }

-- what is kept stays chained, where one entry more is put
pub AreKept-more : (kept : List NodeEntry) (x : NodeEntry) (old new : Chains) → AreKept kept old → IsNode (length old.heads.items) x.node → length new.heads.items ≡ length old.heads.items
    → ((entries : List NodeEntry) (many : ℕ) (d : NodeEntry) → many < length entries → (get_or entries many d).node ≡ x.node → AreChained entries many old → AreChained entries (many + 1) new) → AreKept (kept ++ x ∷ []) new
AreKept-more kept x old new was node size put =
    let long = length_push kept x in
    let last : (get_or (kept ++ x ∷ []) (length kept) x).node ≡ x.node = ap (λ (y : NodeEntry). y.node) (get_or_push kept x x (length kept) refl) in
    record {
      nodes = subst (λ n. All (λ (e : NodeEntry). IsNode n e.node) (kept ++ x ∷ [])) (sym size) (All-push (λ (e : NodeEntry). IsNode (length old.heads.items) e.node) kept x was.nodes node);
      chained = subst (λ n. AreChained (kept ++ x ∷ []) n new) (omega (arith, long)) (put (kept ++ x ∷ []) (length kept) x (omega (arith, long)) last (AreChained-longer kept (x ∷ []) old was.chained));
    }

-- and where none is
pub AreKept-same : (kept : List NodeEntry) (old new : Chains) → AreKept kept old → new.heads.items ≡ old.heads.items → new.nexts.items ≡ old.nexts.items → AreKept kept new
AreKept-same kept old new was heads nexts =
    let chained = was.chained in
    let node_was : (v : ℕ) → IsNode (length new.heads.items) v → IsNode (length old.heads.items) v = λ v node. subst (λ hs. IsNode (length hs) v) heads node in
    record {
      nodes = subst (λ hs. All (λ (e : NodeEntry). IsNode (length hs) e.node) kept) (sym heads) was.nodes;
      chained = record {
        count = ap length nexts ∙ chained.count;
        within = chained.within;
        chain = λ v node.
            let row = reverse (entries_of_node (take (length kept) kept) v) in
            subst (λ ns. IsChain kept ns (head_of new v) row) (sym nexts) (subst (λ hs. IsChain kept old.nexts.items (get_or hs (v - 1) 0) row) (sym heads) (chained.chain v (node_was v node)));
        head = λ v d node some.
            subst (λ hs. (get_or hs (v - 1) 0 ≤ length kept) × ((get_or kept (get_or hs (v - 1) 0 - 1) d).node ≡ v)) (sym heads) (chained.head v d (node_was v node) (subst (λ hs. 1 ≤ get_or hs (v - 1) 0) heads some));
      };
    }

-- what was listed last is taken off the list
pub unlisted : (list : List NodeEntry) (x : NodeEntry) → take (length (list ++ x ∷ []) - 1) (list ++ x ∷ []) ≡ list
unlisted list x =
    let before : length (list ++ x ∷ []) - 1 ≡ length list = let long = length_push list x in omega (arith, long) in
    ap (λ n. take n (list ++ x ∷ [])) before ∙ take-append_seam list (x ∷ [])

-- what is told of a refusal
pub if-failed : {T E : Type 0} (r : Result T E) (P : Type 0) → is_err r ≡ true → OnErr r P → P
if-failed (Ok x) P failed told = absurd cc
if-failed (Err e) P failed told = told
