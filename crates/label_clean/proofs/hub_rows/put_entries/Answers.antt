use Rattle.std.proofs.Common.{◌≡◌, ◌≢◌, ℕ, ◌+◌, ◌-◌, ◌<◌, inl, inr, List, [], ◌∷◌, ◌++◌, Vec, Global, get_or, length, set, take, sym, ap, subst, ◌∙◌, append_assoc, arith}
use Rattle.std.proofs.lemmas.Bool.{cases_eq}
use Rattle.walk_laws.specs.declared.entry.Entry.{Entry}
use Rattle.label_clean.specs.declared.hub_rows.HubEntry.{HubEntry}
use Rattle.label_clean.specs.HubRows.{entries_of_hub}
use Rattle.label_clean.proofs.GatheredHubs.{hub_after, hub_still, row_now, row_still, row_there}
use Rattle.label_clean.proofs.RowItems.{items_of}
use Rattle.label_clean.proofs.hub_rows.put_entries.Goals as goal
use Rattle.label_clean.proofs.hub_rows.put_entries.Goals.{then-place-count+in_ok-push, else-place-count}

-- what stands in the rows before and after the next entry, which is one of another hub, or of a hub at these positions
module _ (first count : ℕ) (entries : List HubEntry) (i : ℕ) (x : HubEntry) (is : x ≡ get_or entries i x) (within : i < length entries) (old rows : List (Vec Entry Global)) (so_far : (k : ℕ) → k < count → get_or (items_of rows) k [] ≡ get_or (items_of old) k [] ++ entries_of_hub (take i entries) (first + k)) where
  passed_by : ((k : ℕ) → k < count → x.of ≢ first + k) → (k : ℕ) → k < count → get_or (items_of rows) k [] ≡ get_or (items_of old) k [] ++ entries_of_hub (take (i + 1) entries) (first + k)
  passed_by other k low = so_far k low ∙ ap (λ es. get_or (items_of old) k [] ++ es) (sym (hub_still entries i x is within (first + k) (other k low)))

  put_there : (place : ℕ) (d row : Vec Entry Global) → x.of ≡ first + place → place < length rows → row.items ≡ (get_or rows place d).items ++ x.entry ∷ []
      → (k : ℕ) → k < count → get_or (items_of (set rows place row)) k [] ≡ get_or (items_of old) k [] ++ entries_of_hub (take (i + 1) entries) (first + k)
  put_there place d row of inside put k low = elim (cases_eq k place) [
    | inr other ↦
        row_still rows place row inside k other ∙ so_far k low
        ∙ ap (λ es. get_or (items_of old) k [] ++ es) (sym (hub_still entries i x is within (first + k) (λ same. other (omega (arith, of, same)))))
    | inl here ↦
        let there : x.of ≡ first + k = omega (arith, of, here) in
        let before : (get_or rows place d).items ≡ get_or (items_of rows) k [] = sym (row_there rows place d inside) ∙ ap (λ j. get_or (items_of rows) j []) (sym here) in
        ap (λ j. get_or (items_of (set rows place row)) j []) here ∙ row_now rows place row inside ∙ put ∙ ap (λ es. es ++ x.entry ∷ []) (before ∙ so_far k low)
        ∙ append_assoc (get_or (items_of old) k []) (entries_of_hub (take i entries) (first + k)) (x.entry ∷ []) ∙ ap (λ es. get_or (items_of old) k [] ++ es) (sym (hub_after entries i x is within (first + k) there))
  ]

pub loop-entry-preserved-then-entry-first : goal.loop-entry-preserved-then-entry-first
loop-entry-preserved-then-entry-first c = record {
  size = c.loop-entry.invariant.size;
  rows = passed_by c.args.first c.args.count c.args.entries.now c.loop-entry.entry-index c.entry-item.result c.entry-item.is c.loop-entry-test.true c.args.rows.now c.loop-entry.rows c.loop-entry.invariant.rows (λ k low same. omega (arith, c.if-entry-first.true, same));
}

pub loop-entry-preserved : goal.loop-entry-preserved
loop-entry-preserved c =
    let entries = c.args.entries.now in
    let i = c.loop-entry.entry-index in
    let first = c.args.first in
    let was = c.loop-entry.rows in
    let x = c.entry-item.result in
    let Stand = λ (rows : List (Vec Entry Global)). (k : ℕ) → k < c.args.count → get_or (items_of rows) k [] ≡ get_or (items_of c.args.rows.now) k [] ++ entries_of_hub (take (i + 1) entries) (first + k) in
    record {
      size = omega (arith, c.if-place-count.auto.rows, c.loop-entry.invariant.size);
      rows = elim c.if-place-count.branch [
        | else-place-count w ↦
            subst Stand (sym w.rows-is) (passed_by first c.args.count entries i x c.entry-item.is c.loop-entry-test.true c.args.rows.now was c.loop-entry.invariant.rows (λ k low same. omega (arith, w.if-place-count.false, same, low)))
        | then-place-count+in_ok-push w ↦
            subst Stand (sym w.rows-is)
            (put_there first c.args.count entries i x c.entry-item.is c.loop-entry-test.true c.args.rows.now was c.loop-entry.invariant.rows (x.of - first) w.index-rows-place.result w.push.new.self (omega (arith, c.if-entry-first.false))
            (omega (arith, w.if-place-count.true, c.requires, c.loop-entry.invariant.size)) w.in_ok-push.ensures.items)
      ];
    }
