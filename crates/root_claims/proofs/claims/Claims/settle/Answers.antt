use Rattle.std.proofs.Common.{◌≡◌, ◌+◌, sym, ◌∙◌, ap, arith}
use Rattle.root_claims.proofs.Allowed.{settles_all}
use Rattle.root_claims.proofs.claims.Claims.settle.Goals as goal

pub load-number-requires : goal.load-number-requires
load-number-requires c =
    let i = c.seat.invariant in
    let table = c.self.invariant in
    let same = ap (λ d. d.claims.table) c.seat.view_is ∙ c.requires.seat.0 ∙ sym (ap (λ d. d.table) c.self.view_is) in
    let left = ap (λ d. d.left + 1) c.seat.view_is ∙ c.requires.last ∙ sym (ap (λ d. d.seats) c.self.view_is) in
    (same, omega arith, settles_all c.self.inside.table.shared.key _ _ _ (omega (arith, i.0)) (i.0 ∙ left))
