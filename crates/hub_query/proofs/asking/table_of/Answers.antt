use Rattle.std.proofs.Common.{length, ap, arith}
use Rattle.hub_query.proofs.RowFacts.{row_positions}
use Rattle.hub_query.proofs.asking.table_of.Goals as goal

pub load-requires-clause-within : goal.load-requires-clause-within
load-requires-clause-within c =
    let index = c.args.index.now in
    rw c.row.ensures.value (λ k d lt.
    omega (arith, row_positions index.order index.rows c.args.u c.row.ensures.well_formed c.requires.node c.requires.within k d lt, ap length c.deref_mut.ensures.value, c.in_ok-table.ensures.size, c.n.ensures.value))
