use Rattle.std.proofs.Common.{sym, ◌∙◌, ap, arith}
use Rattle.root_claims.proofs.Allowed.{draws_one}
use Rattle.root_claims.proofs.claims.Claims.claim.Goals as goal

pub fetch_add-number-requires : goal.fetch_add-number-requires
fetch_add-number-requires c =
    let i = c.seat.invariant in
    let table = c.self.invariant in
    let same = ap (λ d. d.claims.table) c.seat.view_is ∙ c.requires.seat.0 ∙ sym (ap (λ d. d.table) c.self.view_is) in
    (same, omega arith, draws_one c.self.inside.table.shared.key _ _ _ (omega (arith, i.0)) (ap (λ d. d.over) c.seat.view_is ∙ c.requires.over))
