use Rattle.std.proofs.Common.{length, ap, ◌<◌, ◌∙◌, rules, arith}
use Rattle.std.proofs.Math.ListN.{length-set}
use Rattle.std.proofs.lemmas.List.{length-map}
use Rattle.std.proofs.lemmas.List.Sorted.{answers_always, IsNonDecreasingBy-from_sort}
use Rattle.hub_index.proofs.GatheredRows.{sorted_next, row_other}
use Rattle.hub_index.proofs.row_list.RowList.sort.Goals as goal

pub loop-k-preserved : goal.loop-k-preserved
loop-k-preserved c =
    let rows = c.loop-k.self-inside.rows.items in
    let k = c.loop-k.k in
    let new = c.sort_unstable_by_key.new.self in
    let so_far = c.loop-k.invariant in
    let lt : c.loop-k.k < length c.loop-k.self-inside.rows.items = omega (arith, c.loop-k-test.true, c.len-k-end.ensures, so_far.size, ap length c.self.view_is, length-map c.self.inside.rows.items (λ row. row.items)) in
    record {
      size = length-set rows k new ∙ so_far.size;
      sorted = sorted_next c.args.self.now rows k c.index_mut.result.now new lt c.index_mut.ensures.value c.sort_unstable_by_key.ensures.permutation
          (IsNonDecreasingBy-from_sort (λ e. e.pos) new.items (c.sort_unstable_by_key.ensures.sorted (λ e. e.pos) (answers_always _ _ _ (λ f a r g h. search rules)))) so_far.sorted so_far.others;
      others = λ v past. row_other rows k v new (omega arith) (λ same. omega (arith, same)) ∙ so_far.others v (omega arith);
    }
