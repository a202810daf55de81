-- Rows that are gathered: what is found of them, and one more entry.
use Rattle.std.proofs.Common.{◌≡◌, ◌≢◌, ℕ, ◌-◌, ◌<◌, ◌≤◌, false, inl, inr, List, [], ◌∷◌, ◌++◌, All, length, get_or-set_other, get_or-set_same, sym, subst, ◌∙◌, arith}
use Rattle.std.proofs.Math.ListN.{length-set}
use Rattle.std.proofs.lemmas.Bool.{cases_eq}
use Rattle.std.proofs.lemmas.List.{append-nil}
use Rattle.std.proofs.lemmas.List.Elements.{All-push, All-weaker}
use Rattle.std.proofs.lemmas.Option.{slice_get_within}
use Rattle.std.specs.Prelude.{Result, Ok, Err, OnOk}
use Rattle.std.specs.Result.{is_err}
use Rattle.walk_laws.specs.declared.graph.Edge.{Edge}
use Rattle.walk_laws.specs.declared.entry.Entry.{Entry}
use Rattle.walk_laws.specs.Joined.{Joined}
use Rattle.walk_laws.specs.Labelling.{EntryFits, label_row}
use Rattle.hub_index.specs.HubIndex.{with_entry}
use Rattle.hub_index.specs.PlainRows.{IsGathered}
use Rattle.hub_index.specs.Views.{IsNode, IsFoundOnward}

pub row_gains : (rows : List (List Entry)) (v : ℕ) (e : Entry) → 1 ≤ v → v ≤ length rows → label_row (with_entry rows v e) v ≡ label_row rows v ++ e ∷ []
row_gains rows v e from_one within = get_or-set_same rows (v - 1) _ [] (omega arith)

pub row_stays : (rows : List (List Entry)) (v x : ℕ) (e : Entry) → 1 ≤ v → 1 ≤ x → x ≢ v → label_row (with_entry rows v e) x ≡ label_row rows x
row_stays rows v x e from_one x_from_one other = get_or-set_other rows (v - 1) (x - 1) _ [] (λ same. other (omega (arith, same)))

-- each node's row is found as it is
pub found-gathered : (edges : List Edge) (order : List ℕ) (rows : List (List Entry)) (v : ℕ) → IsGathered edges order rows → IsNode (length order) v → IsFoundOnward (EntryFits (Joined edges) order v) (label_row rows v) (label_row rows v)
found-gathered edges order rows v gathered node = record {
  goes_on = record { more = []; grown = sym (append-nil (label_row rows v)) };
  met = gathered.fit v node.from_one node.up_to_n;
}

pub IsGathered-gains : (edges : List Edge) (order : List ℕ) (rows : List (List Entry)) (v : ℕ) (e : Entry) → IsGathered edges order rows → IsNode (length order) v → EntryFits (Joined edges) order v e → IsGathered edges order (with_entry rows v e)
IsGathered-gains edges order rows v e gathered node fits = record {
  size = length-set rows (v - 1) _ ∙ gathered.size;
  fit = λ x from_one up_to_n. elim (cases_eq x v) [
    | inl here ↦
        let P : ℕ → Type 0 = λ y. All (EntryFits (Joined edges) order y) (label_row (with_entry rows v e) y) in
        let now = row_gains rows v e node.from_one (omega (arith, node.up_to_n, gathered.size)) in
        subst P (sym here) (subst (λ row. All (EntryFits (Joined edges) order v) row) (sym now) (All-push (EntryFits (Joined edges) order v) (label_row rows v) e (gathered.fit v node.from_one node.up_to_n) fits))
    | inr other ↦
        subst (λ row. All (EntryFits (Joined edges) order x) row) (sym (row_stays rows v x e node.from_one from_one other)) (gathered.fit x from_one up_to_n)
  ];
}

-- each position of the entries that are found is one of the ranking
pub positions-found : (edges : List Edge) (order : List ℕ) (v : ℕ) (row : List Entry) → All (EntryFits (Joined edges) order v) row → All (λ e. e.pos < length order) row
positions-found edges order v row fit =
    All-weaker (EntryFits (Joined edges) order v) (λ e. e.pos < length order) (λ e fits. slice_get_within order e.pos fits.walk.0 fits.walk.1) row fit

pub put-done : {E : Type 0} (r : Result (Unit {0}) E) (P : Type 0) → is_err r ≡ false → OnOk r P → P
put-done (Ok x) P done h = h
put-done (Err e) P done h = absurd cc
