use Rattle.std.proofs.Common.{rules, ◌≡◌, ◌<◌, inl, inr, [], get_or, length, set, sym, subst, ◌∙◌, arith}
use Rattle.std.proofs.Math.ListN.{length-set}
use Rattle.std.proofs.lemmas.Bool.{cases_eq}
use Rattle.std.proofs.lemmas.List.Sorted.{answers_always, IsNonDecreasingBy-from_sort}
use Rattle.hub_index.specs.NodeEntries.{IsGatheredRow}
use Rattle.label_clean.proofs.Covering.{pos_of}
use Rattle.label_clean.proofs.GatheredHubs.{row_now, row_still, row_there}
use Rattle.label_clean.proofs.RowItems.{items_of}
use Rattle.label_clean.proofs.hub_rows.sort_rows.Goals as goal

pub loop-k-preserved : goal.loop-k-preserved
loop-k-preserved c =
    let old = items_of c.args.rows.now in
    let rows = c.loop-k.rows in
    let i = c.loop-k.k in
    let new = c.sort_unstable_by_key.new.self in
    let within : c.loop-k.k < length c.loop-k.rows = omega (arith, c.loop-k-test.true, c.requires, c.loop-k.invariant.size) in
    record {
      size = length-set rows i new ∙ c.loop-k.invariant.size;
      sorted = λ k low. elim (cases_eq k i) [
        | inl here ↦
            let was : get_or (items_of c.args.rows.now) c.loop-k.k [] ≡ (get_or c.loop-k.rows c.loop-k.k c.index-rows-k.result).items = sym (c.loop-k.invariant.others i (omega arith)) ∙ row_there rows i c.index-rows-k.result within in
            let now = row_now rows i new within in
            subst (λ j. IsGatheredRow (get_or old j []) (get_or (items_of (set rows i new)) j [])) (sym here)
            (subst (λ es. IsGatheredRow es (get_or (items_of (set rows i new)) i [])) (sym was)
            (subst (IsGatheredRow (get_or rows i c.index-rows-k.result).items) (sym now) (record {
              rising = IsNonDecreasingBy-from_sort pos_of new.items (c.sort_unstable_by_key.ensures.sorted pos_of (answers_always _ _ _ (λ f a r g h. search rules)));
              same = c.sort_unstable_by_key.ensures.permutation;
            })))
        | inr other ↦ subst (IsGatheredRow (get_or old k [])) (sym (row_still rows i new within k other)) (c.loop-k.invariant.sorted k (omega (arith, low, other)))
      ];
      others = λ k past. row_still rows i new within k (λ same. omega (arith, past, same)) ∙ c.loop-k.invariant.others k (omega (arith, past));
    }
