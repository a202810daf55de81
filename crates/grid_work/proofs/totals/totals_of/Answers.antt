use Rattle.std.proofs.Common.{◌+◌, ◌^◌, ◌≤◌, length, subst, sym, ap, arith}
use Rattle.std.specs.Prelude.{All}
use Rattle.walk_laws.specs.declared.entry.Entry.{Entry}
use Rattle.grid_work.specs.Totals.{row_distances}
use Rattle.grid_work.proofs.RowTotals.{row_near, row_short, entries_room, distances_room}
use Rattle.grid_work.proofs.totals.totals_of.Goals as goal

pub overflow_add-entries : goal.overflow_add-entries
overflow_add-entries c =
    let i = c.args.index.now in
    omega (arith, c.loop-p.invariant.entries, entries_room i.order i.rows c.row-row.ensures.well_formed c.loop-p.p (omega (arith, c.n-p-end.ensures.value)), ap length c.row-row.ensures.value)

pub overflow_add-distances : goal.overflow_add-distances
overflow_add-distances c =
    let i = c.args.index.now in
    omega (arith, c.loop-p.invariant.distances, distances_room i.order i.rows c.row-row.ensures.well_formed c.loop-p.p (omega (arith, c.n-p-end.ensures.value)), c.row_distances-distances.ensures, ap row_distances c.row-row.ensures.value)

pub row_distances-distances-requires-clause-short : goal.row_distances-distances-requires-clause-short
row_distances-distances-requires-clause-short c =
    let i = c.args.index.now in
    omega (arith, ap length c.row-row.ensures.value, row_short i.order i.rows c.row-row.ensures.well_formed (c.loop-p.p + 1) (omega arith) (omega (arith, c.n-p-end.ensures.value)))

pub row_distances-distances-requires-clause-near : goal.row_distances-distances-requires-clause-near
row_distances-distances-requires-clause-near c =
    let i = c.args.index.now in
    subst (All (λ (e : Entry). e.dist ≤ 2 ^ 64)) (sym c.row-row.ensures.value) (row_near i.order i.rows c.row-row.ensures.well_formed (c.loop-p.p + 1) (omega arith) (omega (arith, c.n-p-end.ensures.value)))
