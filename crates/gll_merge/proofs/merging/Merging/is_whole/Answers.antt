use Rattle.std.proofs.Common.{◌+◌, ◌&&◌, drop, sym, ap, ◌∙◌}
use Rattle.gll_merge.specs.Merging.{MergingView, are_filled}
use Rattle.gll_merge.proofs.PlacedShards.{filled_from, filled_past}
use Rattle.gll_merge.proofs.merging.Merging.is_whole.Goals as goal

pub loop-place-init : goal.loop-place-init
loop-place-init g c = ap are_filled c.deref-place-items.ensures.value ∙ ap (λ (m : MergingView). are_filled m.places) c.self.view_is

pub returns-then-is_none : goal.returns-then-is_none
returns-then-is_none g c =
    let items = c.deref-place-items.result.now in
    let k = c.loop-place.place-index in
    ap (λ b. b && are_filled (drop (k + 1) items)) (sym c.if-is_none.ensures) ∙ sym (filled_from items k c.place-item.result c.loop-place-test.true c.place-item.is) ∙ c.loop-place.invariant

pub loop-place-preserved : goal.loop-place-preserved
loop-place-preserved g c =
    let items = c.deref-place-items.result.now in
    let k = c.loop-place.place-index in
    sym (filled_from items k c.place-item.result c.loop-place-test.true c.place-item.is ∙ ap (λ b. b && are_filled (drop (k + 1) items)) c.if-is_none.ensures) ∙ c.loop-place.invariant

pub returns : goal.returns
returns g c = sym (filled_past c.deref-place-items.result.now c.loop-place.place-index c.loop-place-test.false) ∙ c.loop-place.invariant
