use Rattle.plant_build.proofs.Balances.{lends}
use Rattle.plant_build.proofs.own.Own.lend.Goals as goal

pub another-requires : goal.another-requires
another-requires c = lends _ c.self.invariant.1 _
