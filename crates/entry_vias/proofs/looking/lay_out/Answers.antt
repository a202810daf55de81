use Rattle.std.proofs.Common.{◌≡◌, ◌<◌, map, ap, get_or, length, set, ◌∙◌, refl, sym, arith}
use Rattle.std.proofs.Math.ListN.{length-set}
use Rattle.std.proofs.lemmas.List.{get_or_read}
use Rattle.std.proofs.lemmas.List.Kept.{AllPairs-from_increasing}
use Rattle.walk_laws.specs.declared.entry.Entry.{Entry}
use Rattle.entry_vias.specs.Slots.{slot_of}
use Rattle.entry_vias.proofs.RowFacts.{nothing}
use Rattle.entry_vias.proofs.LaidOut.{IsLaidOut-none, IsLaidOut-next, sought-next}
use Rattle.entry_vias.proofs.Counts.{one-far, one-own, sought_in-empty, sought_in-le}
use Rattle.entry_vias.proofs.looking.lay_out.Goals as goal
use Rattle.entry_vias.proofs.looking.lay_out.Goals.{then-dist-gt0, else-dist-gt0}

pub loop-entry-init : goal.loop-entry-init
loop-entry-init c = record { size = refl; row = IsLaidOut-none c.args.table.now c.requires.empty; sought = sym (sought_in-empty c.args.table.now c.requires.empty) }

pub loop-entry-preserved : goal.loop-entry-preserved
loop-entry-preserved c =
    let k = c.loop-entry.entry-index in
    let row = c.args.row.now in
    let table = c.loop-entry.table in
    let read : c.entry-item.result ≡ get_or c.args.row.now k nothing = get_or_read c.args.row.now k _ c.loop-entry-test.true c.entry-item.is nothing in
    let is : c.get_u64-dist.result ≡ (get_or c.args.row.now k nothing).dist = c.get_u64-dist.ensures ∙ ap (λ (e : Entry). e.dist) read in
    let inside : (get_or c.args.row.now k nothing).pos < length c.loop-entry.table = omega (arith, c.requires.within k nothing c.loop-entry-test.true, c.loop-entry.invariant.size) in
    let up = AllPairs-from_increasing (map (λ e. e.pos) c.args.row.now) c.requires.rises in
    let dist = (get_or row k nothing).dist in
    let was = c.loop-entry.invariant.sought in
    let more = sought-next row k nothing table c.loop-entry-test.true inside up c.loop-entry.invariant.row in
    rw (c.of_entry.ensures, is, read) (record {
      size = length-set c.loop-entry.table _ _ ∙ c.loop-entry.invariant.size;
      row = IsLaidOut-next row k nothing table c.loop-entry-test.true inside up c.loop-entry.invariant.row;
      sought = elim c.if-dist-gt0.branch [
        | then-dist-gt0 w ↦ omega (arith, w.sought-is, more, was, one-far dist (omega (arith, w.if-dist-gt0.true, is)))
        | else-dist-gt0 w ↦ omega (arith, w.sought-is, more, was, one-own dist (omega (arith, w.if-dist-gt0.false, is)))
      ];
    })

pub overflow_add-sought : goal.overflow_add-sought
overflow_add-sought c =
    let k = c.loop-entry.entry-index in
    let row = c.args.row.now in
    let table = c.loop-entry.table in
    let read : c.entry-item.result ≡ get_or c.args.row.now k nothing = get_or_read c.args.row.now k _ c.loop-entry-test.true c.entry-item.is nothing in
    let is : c.get_u64-dist.result ≡ (get_or c.args.row.now k nothing).dist = c.get_u64-dist.ensures ∙ ap (λ (e : Entry). e.dist) read in
    let inside : (get_or c.args.row.now k nothing).pos < length c.loop-entry.table = omega (arith, c.requires.within k nothing c.loop-entry-test.true, c.loop-entry.invariant.size) in
    let up = AllPairs-from_increasing (map (λ e. e.pos) c.args.row.now) c.requires.rises in
    let e = get_or row k nothing in
    let more = sought-next row k nothing table c.loop-entry-test.true inside up c.loop-entry.invariant.row in
    omega (arith, more, c.loop-entry.invariant.sought, one-far e.dist (omega (arith, c.if-dist-gt0.true, is)), sought_in-le (set table e.pos (slot_of e.dist)), length-set c.loop-entry.table e.pos (slot_of e.dist))
