use Rattle.std.proofs.Common.{◌≡◌, ◌-◌, ◌<◌, [], length, get_or, get_or-set_same, insert, set, ap, ◌∙◌, arith}
use Rattle.std.proofs.lemmas.List.{get_or_read}
use Rattle.std.proofs.lemmas.List.Edits.{get_or-insert_below}
use Rattle.walk_laws.specs.declared.entry.Entry.{Entry}
use Rattle.walk_laws.specs.Labelling.{label_row}
use Rattle.resumed_tree.proofs.MovedRows.{last_free, set-insert, move_up, changed_again}
use Rattle.resumed_tree.proofs.taking.put_at.Goals as goal

pub loop-free-init : goal.loop-free-init
loop-free-init c =
    let row = label_row c.args.rows.now c.args.v in
    let end = ap length c.row-free.ensures in
    record {
      from = omega (arith, c.requires.place, end);
      within = omega (arith, end);
      rows = c.in_ok-push.ensures.ok ∙ ap (set c.args.rows.now (c.args.v - 1)) (last_free row (length c.row-free.result.now) c.args.entry end);
    }

pub loop-free-preserved : goal.loop-free-preserved
loop-free-preserved c =
    let row = label_row c.args.rows.now c.args.v in
    let inv = c.loop-free.invariant in
    let free = c.loop-free.free in
    let moved : Entry = c.index-row-free.result in
    let x = get_or row free c.args.entry in
    let inside : c.args.v - 1 < length c.args.rows.now = omega (arith, c.requires.node, c.requires.within) in
    let before : free - 1 < free = omega (arith, c.loop-free-test.true) in
    let here = c.row.ensures ∙ ap (λ rows. label_row rows c.args.v) inv.rows ∙ get_or-set_same c.args.rows.now (c.args.v - 1) (insert row free x) [] inside in
    let stood : moved ≡ get_or row (free - 1) moved = c.index-row-free.is ∙ ap (λ r. get_or r (free - 1) moved) here ∙ get_or-insert_below row free x moved (free - 1) before inv.within in
    let is = get_or_read row (free - 1) moved (omega (arith, before, inv.within)) stood c.args.entry in
    record {
      from = omega (arith, c.loop-free-test.true);
      within = omega (arith, inv.within);
      rows = changed_again c.args.rows.now c.loop-free.rows c.set.new.self (c.args.v - 1) (insert row free x) (λ r. set r free moved) inside inv.rows c.set.ensures
          ∙ ap (set c.args.rows.now (c.args.v - 1)) (ap (set (insert row free x) free) is ∙ move_up row free x c.args.entry (omega (arith, c.loop-free-test.true)) inv.within);
    }

pub returns-clause-ok : goal.returns-clause-ok
returns-clause-ok c =
    let row = label_row c.args.rows.now c.args.v in
    let inv = c.loop-free.invariant in
    let free = c.loop-free.free in
    let x = get_or row free c.args.entry in
    let inside : c.args.v - 1 < length c.args.rows.now = omega (arith, c.requires.node, c.requires.within) in
    let here : free ≡ c.args.place = omega (arith, inv.from, c.loop-free-test.false) in
    changed_again c.args.rows.now c.loop-free.rows c.set-2.new.self (c.args.v - 1) (insert row free x) (λ r. set r c.args.place c.args.entry) inside inv.rows c.set-2.ensures
    ∙ ap (set c.args.rows.now (c.args.v - 1)) (ap (λ k. set (insert row k x) c.args.place c.args.entry) here ∙ set-insert row c.args.place x c.args.entry c.requires.place)
