use Rattle.std.proofs.Common.{arith}
use Rattle.hub_query.proofs.RowFacts.{row_positions}
use Rattle.hub_query.proofs.asking.turn.Goals as goal

pub clear-requires-clause-within : goal.clear-requires-clause-within
clear-requires-clause-within c =
    let index = c.args.index.now in
    rw c.row.ensures.value (λ k d lt.
    omega (arith, row_positions index.order index.rows c.args.held c.row.ensures.well_formed c.requires.held.0 c.requires.held.1 k d lt, c.requires.size))

pub load-requires-clause-within : goal.load-requires-clause-within
load-requires-clause-within c =
    let index = c.args.index.now in
    rw c.row-then-held-u.ensures.value (λ k d lt.
    omega (arith, row_positions index.order index.rows c.args.u c.row.ensures.well_formed c.requires.node.0 c.requires.node.1 k d lt, c.requires.size, c.clear.ensures.size))
