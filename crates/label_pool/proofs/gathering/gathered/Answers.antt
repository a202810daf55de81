use Rattle.std.proofs.Common.{◌≡◌, ◌+◌, ◌-◌, List, [], ◌∷◌, ◌++◌, length, map, ap, ◌∙◌, subst, arith}
use Rattle.std.specs.Prelude.{Vec, slice_index_or}
use Rattle.std.proofs.Common.{Global}
use Rattle.std.proofs.lemmas.List.{length-append, length-map, map-append}
use Rattle.std.specs.Slots.{slots_items}
use mathlib.Core.Logic.{dite}
use native.Mathlib.Decide.{dec_le}
use Rattle.walk_laws.specs.declared.entry.Entry.{Entry}
use Rattle.walk_laws.specs.Labelling.{label_row}
use Rattle.label_pool.specs.Chains.{IsWritten}
use Rattle.label_pool.proofs.Walked.{row-before, row-last}
use Rattle.label_pool.proofs.gathering.gathered.Goals as goal

pub entries_in-requires-clause-chain : goal.entries_in-requires-clause-chain
entries_in-requires-clause-chain c = c.requires.chains (c.loop-place.place + 1) (record { from_one = omega arith; up_to_n = omega (arith, c.loop-place-test.true) })

pub loop-place-preserved : goal.loop-place-preserved
loop-place-preserved c =
    let i = c.loop-place.invariant in
    let place = c.loop-place.place in
    let items : Vec Entry Global → List Entry = λ row. row.items in
    let before = map items c.loop-place.rows.items in
    let row = c.in_ok-entries_in.field-0.items in
    let grown : map items c.push.new.self.items ≡ before ++ row ∷ [] = ap (map items) c.in_ok-push.ensures.items ∙ map-append items c.loop-place.rows.items (c.in_ok-entries_in.field-0 ∷ []) in
    let size : length before ≡ place = length-map c.loop-place.rows.items items ∙ i.size in
    record {
      size = ap length c.in_ok-push.ensures.items ∙ length-append c.loop-place.rows.items (c.in_ok-entries_in.field-0 ∷ []) ∙ ap (λ k. k + 1) i.size;
      rows = λ v chain node w. ap (λ rs. label_row rs v) grown ∙ dite (dec_le v place)
          (λ low. row-before before row (v - 1) (omega (arith, low, size, node.from_one)) ∙ i.rows v chain (record { from_one = node.from_one; up_to_n = low }) w)
          (λ high.
          let last : v ≡ place + 1 = omega (arith, high, node.up_to_n) in
          let index : v - 1 ≡ length before = omega (arith, last, size) in
          ap (λ k. slice_index_or (before ++ row ∷ []) k []) index ∙ row-last before row
          ∙ c.in_ok-entries_in.ensures chain (subst (λ u. IsWritten c.args.n c.args.cells (slots_items c.args.closed.now.words) u chain) last w));
    }

pub returns-clause-rows : goal.returns-clause-rows
returns-clause-rows c v chain node w =
    ap (λ rs. label_row rs v) c.from_rows.ensures ∙ c.loop-place.invariant.rows v chain (record { from_one = node.from_one; up_to_n = omega (arith, node.up_to_n, c.loop-place-test.false) }) w
