use Rattle.std.proofs.Common.{◌≡◌, ℕ, zero, suc, ◌<◌, Bool, false, List, [], ◌∷◌, ◌++◌, length, take, set, get_or, get_or-set_other, refl, sym, ap, subst, ◌∙◌, add-one, arith}
use Rattle.std.proofs.Math.ListN.{length-set}
use Rattle.std.proofs.Math.Seq.{take-suc, take-suc-set}
use mathlib.Core.Option.{some}
use lib.ListN.{get_elem?}
use mathlib.Core.Logic.{dite}
use native.Mathlib.Decide.{ℕ_discrete}
use Rattle.std.specs.Slots.{slots_items, slots_filled}
use Rattle.table_seats.proofs.EachSeat.{within, at_or}
use Rattle.label_rows.proofs.rows.taken_out.Goals as goal

emptied : (filled : List Bool) (i : ℕ) → get_or (set filled i false) i false ≡ false
emptied [] i = refl
emptied (x ∷ xs) zero = refl
emptied (x ∷ xs) (suc i) = emptied xs i

pub loop-place-preserved : goal.loop-place-preserved
loop-place-preserved c =
    let i = c.loop-place.invariant in
    let t = c.take.ensures in
    let p = c.loop-place.place in
    let rows = c.loop-place.rows.items in
    let xs = slots_items c.args.closed.slots in
    let before = slots_filled c.loop-place.closed.slots in
    let inside : p < length rows = omega (arith, i.size, c.loop-place-test.true, c.loop-place.auto.place-end, c.len-place-end.ensures, c.args.rows.ok.0, c.requires.size) in
    let filled : slots_filled c.take.new.self.slots ≡ set before p false = t.others.1 in
    let there : get_elem? xs p ≡ some c.take.result = ap (λ ys. get_elem? ys p) (sym i.items) ∙ t.value in
    let within_xs = within xs p c.take.result there in
    record {
      size = length-set rows p c.take.result ∙ i.size;
      len = t.others.2 ∙ i.len;
      items = t.others.0 ∙ i.items;
      taken =
          ap (λ k. take k (set rows p c.take.result)) (add-one p)
          ∙ take-suc-set rows p c.take.result inside
          ∙ ap (λ ys. ys ++ c.take.result ∷ []) i.taken
          ∙ ap (λ row. take p xs ++ row ∷ []) (sym (at_or xs p c.take.result there))
          ∙ sym (take-suc xs p [] within_xs)
          ∙ ap (λ k. take k xs) (sym (add-one p));
      full = λ k above below. ap (λ ys. get_or ys k false) filled ∙ get_or-set_other before p k false false (λ same. omega (arith, same, above)) ∙ i.full k (omega (arith, above)) (omega (arith, below, t.others.2));
      empty = λ k below. ap (λ ys. get_or ys k false) filled ∙ dite (ℕ_discrete k p)
          (λ same. subst (λ j. get_or (set before p false) j false ≡ false) (sym same) (emptied before p))
          (λ other. get_or-set_other before p k false false other ∙ i.empty k (omega (arith, other, below)));
    }
