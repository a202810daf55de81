use Rattle.gll_superstep.proofs.JoinedOutputs.{is_at}
use Rattle.gll_superstep.proofs.superstep.superstep_over.Goals as goal

pub returns-clause-at : goal.returns-clause-at
returns-clause-at g c = is_at g.B.Build.claims c.args.context.now.claims.now c.args.table.first c.args.seat c.requires.seat.seat_is c.args.context.now.claims_are
