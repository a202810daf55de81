use Rattle.plant_build.proofs.Balances.{puts}
use Rattle.plant_build.proofs.own.Own.put.Goals as goal

pub push_as-requires-clause-pushes : goal.push_as-requires-clause-pushes
push_as-requires-clause-pushes c = puts _ c.self.invariant.1 _ _
