use Rattle.plant_build.proofs.Balances.{takes_own}
use Rattle.plant_build.proofs.own.Own.pop.Goals as goal

pub pop_as-batch-requires-clause-fifo : goal.pop_as-batch-requires-clause-fifo
pop_as-batch-requires-clause-fifo c _ = takes_own _ c.self.invariant.1 _
