-- What all workers hand in, together.
use Rattle.std.proofs.Common.{◌≡◌, ℕ, eqb, List, [], ◌∷◌, ◌++◌, ◌≤◌, All, Contains, length, sym, subst, arith}
use Rattle.std.specs.List.{IsDistinct}
use Rattle.std.specs.List.Sorted.{IsPermutation}
use Rattle.std.proofs.lemmas.List.Concat.{flat_map-cons}
use Rattle.std.proofs.lemmas.List.Elements.{All-append, All-nil}
use Rattle.std.proofs.lemmas.Map.Keys.{IsDistinct-tail}
use Rattle.walk_laws.specs.declared.graph.Edge.{Edge}
use Rattle.walk_laws.specs.declared.entry.Entry.{Entry}
use Rattle.walk_laws.proofs.Members.{Contains-first, Contains-next}
use Rattle.hub_index.specs.declared.node_entry.NodeEntry.{NodeEntry}
use Rattle.hub_index.specs.NodeEntries.{entries_of_node}
use Rattle.hub_index.specs.Views.{IsNode}
use Rattle.hub_index.proofs.GatheredRows.{entries_of_node-append}
use Rattle.pruned_tree.proofs.GrownPuts.{AreApart, AreApart-distinct, IsGrownBy-none}
use Rattle.table_seats.specs.Numbers.{numbers}
use Rattle.table_seats.proofs.Counting.{IsDistinct-times, times-numbers, times-permutation}
use Rattle.label_clean.specs.Joining.{IsCoveredBelow}
use Rattle.gll_table.specs.Outputs.{HavePutOver, IsOutput, Output, all_put, all_roots}
use Rattle.gll_table.specs.Outputs.{IsPutBy}
use Rattle.gll_table.proofs.PutBy.{IsPutBy-both, IsPutBy-from_grown}

module _ (edges : List Edge) (at : List ℕ) (first : ℕ) where
  abbrev IsOf : NodeEntry → Type 0
  IsOf e = IsNode (length at) e.node

  abbrev IsApart : ℕ → Entry → Type 0
  IsApart v e = first ≤ e.pos → ¬ IsCoveredBelow edges at first v e

  -- no trees
  HavePutOver-none : HavePutOver edges at first [] []
  HavePutOver-none = record {
    nodes = All-nil IsOf;
    put = λ v node. IsPutBy-from_grown edges at [] (Unit {0}) v [] tt (IsGrownBy-none edges at (Unit {0}) v []);
    apart = λ v node. All-nil (IsApart v);
  }

  -- trees of some roots, and of others
  HavePutOver-both : (one two : List ℕ) (xs ys : List NodeEntry) → HavePutOver edges at first one xs → HavePutOver edges at first two ys → AreApart one two → HavePutOver edges at first (one ++ two) (xs ++ ys)
  HavePutOver-both one two xs ys a b apart =
      let here : (v : ℕ) → entries_of_node xs v ++ entries_of_node ys v ≡ entries_of_node (xs ++ ys) v = λ v. sym (entries_of_node-append xs ys v) in
      record {
        nodes = All-append IsOf xs ys a.nodes b.nodes;
        put = λ v node. subst (IsPutBy edges at (one ++ two) v) (here v) (IsPutBy-both edges at one two v (entries_of_node xs v) (entries_of_node ys v) (a.put v node) (b.put v node) apart);
        apart = λ v node. subst (All (IsApart v)) (here v) (All-append (IsApart v) (entries_of_node xs v) (entries_of_node ys v) (a.apart v node) (b.apart v node));
      }

  -- of all workers, no two of whom had one root
  pub HavePutOver-all : (shift : ℕ) (outputs : List Output) → ((s : Output) → Contains outputs s → IsOutput edges at shift s × (s.first ≡ first)) → IsDistinct eqb (all_roots outputs) → HavePutOver edges at first (all_roots outputs) (all_put outputs)
  HavePutOver-all shift [] are once = HavePutOver-none
  HavePutOver-all shift (s ∷ outputs) are once =
      let roots_are = flat_map-cons (λ (s : Output). s.roots) s outputs in
      let list_is = flat_map-cons (λ (s : Output). s.list) s outputs in
      let split : IsDistinct eqb (s.roots ++ all_roots outputs) = subst (IsDistinct eqb) roots_are once in
      let mine = are s (Contains-first s outputs) in
      let here : HavePutOver edges at first s.roots s.list = subst (λ p. HavePutOver edges at p s.roots s.list) mine.1 mine.0.put in
      let others = HavePutOver-all shift outputs (λ t there. are t (Contains-next s t outputs there)) (later s.roots (all_roots outputs) split) in
      subst (λ roots. HavePutOver edges at first roots (all_put (s ∷ outputs))) (sym roots_are)
      (subst (HavePutOver edges at first (s.roots ++ all_roots outputs)) (sym list_is) (HavePutOver-both s.roots (all_roots outputs) s.list (all_put outputs) here others (AreApart-distinct s.roots (all_roots outputs) split)))
    where
      later : (xs ys : List ℕ) → IsDistinct eqb (xs ++ ys) → IsDistinct eqb ys
      later [] ys once = once
      later (x ∷ xs) ys once = later xs ys (IsDistinct-tail eqb x (xs ++ ys) once)

-- roots that are the numbers from the first one up to the next differ
pub roots_differ : (first next : ℕ) (roots : List ℕ) → IsPermutation roots (numbers first next) → IsDistinct eqb roots
roots_differ first next roots moved = IsDistinct-times roots (λ x. omega (arith, times-permutation x roots (numbers first next) moved, times-numbers x first next))
