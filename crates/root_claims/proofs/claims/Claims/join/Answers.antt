use Rattle.std.proofs.Common.{sym, ◌∙◌, ap, arith}
use Rattle.root_claims.proofs.Allowed.{joins_in, looks}
use Rattle.root_claims.proofs.claims.Claims.join.Goals as goal

pub join_in-requires-clause-table : goal.join_in-requires-clause-table
join_in-requires-clause-table c =
    let same = ap (λ d. d.claims.table) c.seat.view_is ∙ c.requires.seat.0 ∙ sym (ap (λ d. d.table) c.self.view_is) in
    let too = ap (λ d. d.claims.table) c.other.view_is ∙ c.requires.other.0 ∙ sym (ap (λ d. d.table) c.self.view_is) in
    (same, too, omega (arith, c.self.invariant.0))

pub join_in-requires-clause-may : goal.join_in-requires-clause-may
join_in-requires-clause-may c = joins_in c.self.inside.table.shared.key _ _ _ _ (omega (arith, c.seat.invariant.0)) (omega (arith, c.other.invariant.0))

pub join_in-requires-clause-look : goal.join_in-requires-clause-look
join_in-requires-clause-look c = looks c.self.inside.table.shared.key _ _ _ (omega (arith, c.seat.invariant.0))
