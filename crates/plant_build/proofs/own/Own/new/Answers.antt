use Rattle.plant_build.proofs.Balances.{begins}
use Rattle.plant_build.proofs.own.Own.new.Goals as goal

pub fifo_as-requires : goal.fifo_as-requires
fifo_as-requires c = begins
