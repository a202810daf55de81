use Rattle.std.proofs.Common.{rules}
use Rattle.plant_build.proofs.Balances.{returns}
use Rattle.plant_build.proofs.own.Own.take_back.Goals as goal

pub absorb-requires-clause-rule : goal.absorb-requires-clause-rule
absorb-requires-clause-rule c = returns _ c.self.invariant.1 _ _ _ (search rules)
