use Rattle.std.proofs.Common.{arith}
use Rattle.hub_query.proofs.RowFacts.{row_positions}
use Rattle.chl_lines.proofs.printed.row_lines.Goals as goal

pub print_row-requires : goal.print_row-requires
print_row-requires c =
    rw (c.row.ensures.value, c.ranking.ensures.value)
    (row_positions c.args.index.now.order c.args.index.now.rows c.loop-v.v c.ranking.ensures.well_formed (omega arith) (omega (arith, c.n-v-end.ensures.value)))
