use Rattle.std.proofs.Common.{sym, ◌∙◌, ap, arith}
use Rattle.root_claims.proofs.Allowed.{splits_off}
use Rattle.root_claims.proofs.claims.Claims.split.Goals as goal

pub split_off-given-requires-clause-table : goal.split_off-given-requires-clause-table
split_off-given-requires-clause-table c =
    let same = ap (λ d. d.claims.table) c.seat.view_is ∙ c.requires.seat.0 ∙ sym (ap (λ d. d.table) c.self.view_is) in
    (same, omega (arith, c.self.invariant.0))

pub split_off-given-requires-clause-may : goal.split_off-given-requires-clause-may
split_off-given-requires-clause-may c = splits_off c.self.inside.table.shared.key _ _ _ (omega (arith, c.seat.invariant.0, ap (λ d. d.left) c.seat.view_is, c.requires.enough))
