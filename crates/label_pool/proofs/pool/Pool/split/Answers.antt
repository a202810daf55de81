use Rattle.std.proofs.Common.{ap, arith}
use Rattle.label_pool.proofs.Allowed.{splits_off}
use Rattle.label_pool.proofs.pool.Pool.split.Goals as goal

pub split_off-given-requires-clause-may : goal.split_off-given-requires-clause-may
split_off-given-requires-clause-may g c = splits_off _ _ 0 _ _ _ (omega (arith, c.seat.invariant.0, ap (λ d. d.left) c.seat.view_is, c.requires.enough))
