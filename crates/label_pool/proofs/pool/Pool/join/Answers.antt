use Rattle.std.proofs.Common.{arith}
use Rattle.label_pool.proofs.Allowed.{joins_in, looks}
use Rattle.label_pool.proofs.pool.Pool.join.Goals as goal

pub join_in-requires-clause-may : goal.join_in-requires-clause-may
join_in-requires-clause-may g c = joins_in _ _ 0 _ _ _ _ (omega (arith, c.seat.invariant.0)) c.seat.invariant.2 c.other.invariant.2

pub join_in-requires-clause-look : goal.join_in-requires-clause-look
join_in-requires-clause-look g c = looks _ _ _ _ _ (omega (arith, c.seat.invariant.0))
