use Rattle.std.proofs.Common.{◌≡◌, ◌<◌, false, get_or, length, ◌∙◌, arith}
use Rattle.std.specs.Prelude.{IsTrue}
use Rattle.std.proofs.Math.ListN.{length-set}
use Rattle.std.proofs.lemmas.List.{get_or_read}
use Rattle.entry_vias.proofs.RowFacts.{nothing}
use Rattle.entry_vias.proofs.Looks.{look_misses, look_hits, look_counts}
use Rattle.entry_vias.proofs.Counts.{sought_in-le}
use Rattle.entry_vias.proofs.looking.look_at.Goals as goal
use Rattle.entry_vias.proofs.looking.look_at.Goals.{then-is_sought_at, else-is_sought_at}

pub loop-entry-preserved : goal.loop-entry-preserved
loop-entry-preserved c =
    let k = c.loop-entry.entry-index in
    let row = c.args.row.now in
    let table = c.loop-entry.table in
    let read : c.entry-item.result ≡ get_or c.args.row.now k nothing = get_or_read c.args.row.now k _ c.loop-entry-test.true c.entry-item.is nothing in
    let inside : (get_or c.args.row.now k nothing).pos < length c.loop-entry.table = omega (arith, c.requires.within k nothing c.loop-entry-test.true, c.loop-entry.invariant.size) in
    let told = rw (c.get_u64.ensures, read) at c.is_sought_at.ensures in
    elim c.if-is_sought_at.branch [
      | then-is_sought_at w ↦ rw w.table-is (rw (w.found-is, read) (record {
        size = length-set c.loop-entry.table _ _ ∙ c.loop-entry.invariant.size;
        each = look_hits row k nothing c.args.arc c.args.table.now table c.loop-entry-test.true c.loop-entry.invariant.each inside (told.0 w.if-is_sought_at.true);
        found = omega (arith, c.loop-entry.invariant.found, look_counts row k nothing c.args.arc c.args.table.now table c.loop-entry-test.true c.loop-entry.invariant.each inside (told.0 w.if-is_sought_at.true));
      }))
      | else-is_sought_at w ↦ rw w.table-is (rw w.found-is (record {
        size = c.loop-entry.invariant.size;
        each = look_misses row k nothing c.args.arc c.args.table.now table c.loop-entry-test.true c.loop-entry.invariant.each (λ is. let yes : IsTrue c.is_sought_at.result = told.1 is in let no : c.is_sought_at.result ≡ false = w.if-is_sought_at.false in absurd cc);
        found = c.loop-entry.invariant.found;
      }))
    ]

pub overflow_add-found : goal.overflow_add-found
overflow_add-found c =
    let k = c.loop-entry.entry-index in
    let row = c.args.row.now in
    let table = c.loop-entry.table in
    let read : c.entry-item.result ≡ get_or c.args.row.now k nothing = get_or_read c.args.row.now k _ c.loop-entry-test.true c.entry-item.is nothing in
    let inside : (get_or c.args.row.now k nothing).pos < length c.loop-entry.table = omega (arith, c.requires.within k nothing c.loop-entry-test.true, c.loop-entry.invariant.size) in
    let counts = look_counts row k nothing c.args.arc c.args.table.now table c.loop-entry-test.true c.loop-entry.invariant.each inside ((rw (c.get_u64.ensures, read) at c.is_sought_at.ensures).0 c.if-is_sought_at.true) in
    let few = sought_in-le c.args.table.now in
    omega (arith, c.loop-entry.invariant.found, counts, few)
