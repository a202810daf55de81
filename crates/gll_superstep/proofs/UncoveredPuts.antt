-- What the trees of a superstep put: the global table, over which they grew, covers none of it.
use Rattle.std.proofs.Common.{◌≡◌, inl, inr, ℕ, List, [], ◌++◌, Contains, length, sym, subst, arith}
use Rattle.std.specs.Prelude.{Result, reverse}
use Rattle.std.specs.declared.alloc.AllocError.{AllocError}
use Rattle.std.proofs.lemmas.List.Elements.{All-nil, All-push, Contains-append_left}
use Rattle.walk_laws.specs.declared.graph.Edge.{Edge}
use Rattle.walk_laws.specs.declared.entry.Entry.{Entry}
use Rattle.walk_laws.specs.Labelling.{label_row}
use Rattle.hub_index.specs.Views.{IsNode}
use Rattle.label_clean.specs.Needless.{IsNeedless}
use Rattle.pruned_tree.specs.Grown.{IsGrown}
use Rattle.pool_view.specs.Seen.{seen_chain}
use Rattle.pool_view.specs.Viewing.{Viewing, puts_row, seen_row}
use Rattle.gll_superstep.specs.Workers.{AreUncovered, StayUncovered}

module _ (at : List ℕ) where
  -- a row of the global table alone stands in the row that a view saw
  in_seen : (view : Viewing) (v : ℕ) (e : Entry) → Contains (label_row view.global v) e → Contains (seen_row view v) e
  in_seen view v e there =
      let chain = reverse (seen_chain view.seat.looks view.seat.marks v) in
      Contains-append_left (label_row view.global v ++ chain) (label_row view.own v) e (Contains-append_left (label_row view.global v) chain e there)

  -- one tree
  pub StayUncovered-tree : (edges : List Edge) (p : ℕ) (view : Viewing) (after : ℕ → List Entry) (result : Result ℕ AllocError) → IsGrown edges at p (seen_row view) (puts_row view) after result → StayUncovered at view.global (puts_row view) after
  StayUncovered-tree edges p view after result grown v node before = elim (grown.pruned.one v node.from_one) [
    | inl same ↦ subst (AreUncovered at view.global v) (sym same) before
    | inr got ↦ subst (AreUncovered at view.global v) (sym got.1) (All-push Stays (puts_row view v) (entry got.0) before (λ needless.
        let covered = needless.covered in
        let sum = covered.shared in
        omega (
          arith,
          covered.short,
          grown.apart needless.hub v got.0 covered.position covered.sum needless.hub_is node.from_one got.1
              (record {
                before = sum.before;
                after = sum.after;
                in_first = in_seen view needless.hub (record { pos = covered.position; dist = sum.before }) sum.in_first;
                in_second = in_seen view v (record { pos = covered.position; dist = sum.after }) sum.in_second;
                long = sum.long;
              }) covered.above,
        )))
  ]
    where
      entry : ℕ → Entry
      entry d = record { pos = p; dist = d }

      Stays : Entry → Type 0
      Stays e = ¬ IsNeedless at view.global v e

  -- none, and trees after others
  pub StayUncovered-none : (global : List (List Entry)) (before : ℕ → List Entry) → StayUncovered at global before before
  StayUncovered-none global before v node all = all

  pub StayUncovered-then : (global now : List (List Entry)) (before mid after : ℕ → List Entry) → now ≡ global → StayUncovered at global before mid → StayUncovered at now mid after → StayUncovered at global before after
  StayUncovered-then global now before mid after same first second v node all = subst (λ rows. StayUncovered at rows mid after) same second v node (first v node all)

  -- all that was put, where nothing was put before
  pub AreUncovered-from_nothing : (global : List (List Entry)) (before after entries : ℕ → List Entry) → StayUncovered at global before after → ((v : ℕ) → IsNode (length at) v → before v ≡ []) → ((v : ℕ) → after v ≡ entries v) → (v : ℕ) → IsNode (length at) v → AreUncovered at global v (entries v)
  AreUncovered-from_nothing global before after entries stay empty same v node =
      subst (AreUncovered at global v) (same v) (stay v node (subst (AreUncovered at global v) (sym (empty v node)) (All-nil (λ e. ¬ IsNeedless at global v e))))
