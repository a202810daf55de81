use Rattle.plant_build.proofs.Balances.{takes_lent}
use Rattle.plant_build.proofs.other.Other.steal.Goals as goal

pub steal_as-requires-clause-takes : goal.steal_as-requires-clause-takes
steal_as-requires-clause-takes g c = takes_lent _ _ c.loop.invariant.out
