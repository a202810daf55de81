use Rattle.std.proofs.Common.{◌^◌, ◌≤◌, arith}
use Rattle.std.proofs.lemmas.List.Sums.{sum_by-le, sum_by_more_le}
use Rattle.walk_laws.specs.declared.entry.Entry.{Entry}
use Rattle.grid_work.specs.Totals.{row_distances}
use Rattle.grid_work.proofs.totals.row_distances.Goals as goal

pub overflow_add-sum : goal.overflow_add-sum
overflow_add-sum c =
    let row = c.args.row.now in
    let more = sum_by_more_le (λ (e : Entry). e.dist) row c.loop-entry.entry-index (record { pos = 0; dist = 0 }) c.loop-entry-test.true in
    let all = sum_by-le (λ (e : Entry). e.dist) (2 ^ 64) row c.requires.near in
    let small : row_distances row ≤ 2 ^ 94 = omega (arith, all, c.requires.short) in
    omega (arith, more, small, c.loop-entry.invariant, c.get-sum.ensures.value)
