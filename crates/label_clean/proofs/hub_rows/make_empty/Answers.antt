use Rattle.std.proofs.Common.{◌<◌, inl, inr, [], get_or, length, set, sym, subst, ◌≡◌, ◌∙◌, arith}
use Rattle.std.proofs.lemmas.Bool.{cases_eq}
use Rattle.label_clean.proofs.GatheredHubs.{row_now, row_still}
use Rattle.label_clean.proofs.RowItems.{items_of}
use Rattle.label_clean.proofs.hub_rows.make_empty.Goals as goal

pub loop-k-preserved : goal.loop-k-preserved
loop-k-preserved c =
    let rows = c.loop-k.rows.items in
    let i = c.loop-k.k in
    let new = c.clear.new.self in
    let ok = c.loop-k.rows.ok in
    let within : c.loop-k.k < length c.loop-k.rows.items = omega (arith, c.loop-k-test.true, c.min-k-end.ensures, c.len.ensures, c.loop-k.invariant.size, c.loop-k.rows.ok) in
    record {
      size = c.loop-k.invariant.size;
      empty = λ k low. elim (cases_eq k i) [
        | inl here ↦ subst (λ j. get_or (items_of (set rows i new)) j [] ≡ []) (sym here) (row_now rows i new within ∙ c.clear.ensures.items)
        | inr other ↦ row_still rows i new within k other ∙ c.loop-k.invariant.empty k (omega (arith, low, other))
      ];
    }
