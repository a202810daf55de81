-- Rows that take in the entries of a run, entry by entry.
use Rattle.std.proofs.Common.{◌≡◌, ◌≢◌, ℕ, ◌+◌, ◌-◌, ◌<◌, ◌≤◌, inl, inr, List, [], ◌∷◌, ◌++◌, Contains, length, get_or, map, take, drop, sym, ap, subst, ◌∙◌, append_assoc, arith}
use Rattle.std.specs.List.Sorted.{IsStrictlyIncreasing}
use Rattle.std.proofs.lemmas.Bool.{cases_eq}
use Rattle.std.proofs.lemmas.List.{append-nil, get_or-set_same, get_or-set_other, take-append-drop, take_more}
use Rattle.walk_laws.specs.declared.graph.Edge.{Edge}
use Rattle.walk_laws.specs.declared.entry.Entry.{Entry}
use Rattle.walk_laws.specs.Labelling.{label_row}
use Rattle.hub_index.specs.declared.node_entry.NodeEntry.{NodeEntry}
use Rattle.hub_index.specs.HubIndex.{with_entry}
use Rattle.hub_index.specs.NodeEntries.{entries_of_node, entry_if, entry_of}
use Rattle.hub_index.specs.Views.{GoesOnFrom, IsNode}
use Rattle.hub_index.proofs.GatheredRows.{entries_of_node-append, entries_of_node-one, entry_if-same, entry_if-other}
use Rattle.label_clean.specs.RootRuns.{EndsBelow, HasHubs, JoinsNext}
use Rattle.label_clean.specs.Tested.{IsCovering}
use Rattle.label_clean.proofs.Covering.{pos_of}
use Rattle.label_clean.proofs.JoinedRows.{HasHubs-with, HasHubs-without, hub_row_rises, row_ends_below}

-- an entry that is put in a row, and the other rows
pub here_more : (now after : List (List Entry)) (v : ℕ) (e : Entry) → IsNode (length now) v → after ≡ with_entry now v e → label_row after v ≡ label_row now v ++ e ∷ []
here_more now after v e v_in is = ap (λ rows. label_row rows v) is ∙ get_or-set_same now (v - 1) (label_row now v ++ e ∷ []) [] (omega (arith, v_in.from_one, v_in.up_to_n))

pub other_same : (now after : List (List Entry)) (v u : ℕ) (e : Entry) → 1 ≤ v → 1 ≤ u → u ≢ v → after ≡ with_entry now v e → label_row after u ≡ label_row now u
other_same now after v u e v_from u_from other is =
    ap (λ rows. label_row rows u) is ∙ get_or-set_other now (v - 1) (u - 1) (label_row now v ++ e ∷ []) [] (λ same. other (omega (arith, same, v_from, u_from)))

-- a row goes on from itself, from what went on from it, and by an entry that is put
pub GoesOnFrom-same : (row : List Entry) → GoesOnFrom row row
GoesOnFrom-same row = record { more = []; grown = sym (append-nil row) }

pub GoesOnFrom-more : (before row after : List Entry) → GoesOnFrom before row → GoesOnFrom row after → GoesOnFrom before after
GoesOnFrom-more before row after f g = record { more = f.more ++ g.more; grown = g.grown ∙ ap (λ es. es ++ g.more) f.grown ∙ append_assoc before f.more g.more }

pub GoesOnFrom-put : (now after : List (List Entry)) (v u : ℕ) (e : Entry) → IsNode (length now) v → 1 ≤ u → after ≡ with_entry now v e → GoesOnFrom (label_row now u) (label_row after u)
GoesOnFrom-put now after v u e v_in u_from is = elim (cases_eq u v) [
  | inl same ↦ subst (λ w. GoesOnFrom (label_row now w) (label_row after w)) (sym same) (record { more = e ∷ []; grown = here_more now after v e v_in is })
  | inr other ↦ record { more = []; grown = other_same now after v u e v_in.from_one u_from other is ∙ sym (append-nil (label_row now u)) }
]

-- the entries of a row among those of a run so far, and the next one
module _ (run : List NodeEntry) (i : ℕ) (x : NodeEntry) (is : x ≡ get_or run i x) (within : i < length run) where
  one_more : (k : ℕ) → entries_of_node (take (i + 1) run) k ≡ entries_of_node (take i run) k ++ entry_if x.node k (entry_of x)
  one_more k =
      ap (λ es. entries_of_node es k) (take_more run i x within) ∙ entries_of_node-append (take i run) (get_or run i x ∷ []) k
      ∙ ap (λ y. entries_of_node (take i run) k ++ entries_of_node (y ∷ []) k) (sym is)
      ∙ ap (λ es. entries_of_node (take i run) k ++ es) (entries_of_node-one x k)

  pub at_its_row : (k : ℕ) → x.node ≡ k → entries_of_node (take (i + 1) run) k ≡ entries_of_node (take i run) k ++ entry_of x ∷ []
  at_its_row k same = one_more k ∙ ap (λ es. entries_of_node (take i run) k ++ es) (ap (λ u. entry_if u k (entry_of x)) same ∙ entry_if-same k (entry_of x))

  pub at_other_rows : (k : ℕ) → x.node ≢ k → entries_of_node (take (i + 1) run) k ≡ entries_of_node (take i run) k
  at_other_rows k other = one_more k ∙ ap (λ es. entries_of_node (take i run) k ++ es) (entry_if-other x.node k (entry_of x) other) ∙ append-nil (entries_of_node (take i run) k)

  pub run_cut : (k : ℕ) → x.node ≡ k → entries_of_node run k ≡ entries_of_node (take i run) k ++ entry_of x ∷ entries_of_node (drop (i + 1) run) k
  run_cut k same =
      ap (λ es. entries_of_node es k) (sym (take-append-drop (i + 1) run)) ∙ entries_of_node-append (take (i + 1) run) (drop (i + 1) run) k
      ∙ ap (λ es. es ++ entries_of_node (drop (i + 1) run) k) (at_its_row k same) ∙ append_assoc (entries_of_node (take i run) k) (entry_of x ∷ []) (entries_of_node (drop (i + 1) run) k)

-- the next entry of a run, at its own row and at the others
module _ (edges : List Edge) (at : List ℕ) (p c q v : ℕ) (hub_row before done more : List Entry) (k : ℕ) (run : List NodeEntry) (i : ℕ) (x : NodeEntry) (is : x ≡ get_or run i x) (within : i < length run) (next : JoinsNext edges at p c q v hub_row before done (entries_of_node run k) more) (row : List Entry) (has : HasHubs edges at v before (done ++ entries_of_node (take i run) k) row) where
  pub others_stay : x.node ≢ k → HasHubs edges at v before (done ++ entries_of_node (take (i + 1) run) k) row
  others_stay other = subst (λ es. HasHubs edges at v before (done ++ es) row) (sym (at_other_rows run i x is within k other)) has

  module _ (same : x.node ≡ k) where
    abbrev e : Entry
    e = entry_of x

    abbrev some : List Entry
    some = entries_of_node (take i run) k

    abbrev rest : List Entry
    rest = entries_of_node (drop (i + 1) run) k

    abbrev Covered : Type 0
    Covered = (y : Entry) × Contains row y × (p ≤ y.pos) × IsCovering hub_row q x.dist y

    pub its_row_ends_below : EndsBelow q row
    its_row_ends_below = row_ends_below edges at p c q v hub_row before done (entries_of_node run k) more next some rest e (run_cut run i x is within k same) row has

    pub its_hub_row_rises : IsStrictlyIncreasing (map pos_of hub_row)
    its_hub_row_rises = hub_row_rises edges at p c q v hub_row before done (entries_of_node run k) more next some rest e (run_cut run i x is within k same) row has

    pub its_row_stays : Covered → HasHubs edges at v before (done ++ entries_of_node (take (i + 1) run) k) row
    its_row_stays covered =
        subst (λ es. HasHubs edges at v before (done ++ es) row) (sym (at_its_row run i x is within k same))
        (HasHubs-without edges at p c q v hub_row before done (entries_of_node run k) more next some rest e (run_cut run i x is within k same) row has covered)

    pub its_row_grows : (Covered → ⊥) → HasHubs edges at v before (done ++ entries_of_node (take (i + 1) run) k) (row ++ entry_of x ∷ [])
    its_row_grows free =
        subst (λ es. HasHubs edges at v before (done ++ es) (row ++ e ∷ [])) (sym (at_its_row run i x is within k same))
        (HasHubs-with edges at p c q v hub_row before done (entries_of_node run k) more next some rest e (run_cut run i x is within k same) row has free)
