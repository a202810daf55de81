use Rattle.std.proofs.Common.{sym, ◌∙◌, ap, arith}
use Rattle.label_rows.proofs.Allowed.{splits_off}
use Rattle.label_rows.proofs.rows.Rows.split.Goals as goal

pub split_off-given-requires-clause-table : goal.split_off-given-requires-clause-table
split_off-given-requires-clause-table c =
    let same = ap (λ d. d.rows) c.seat.view_is ∙ c.requires.seat ∙ sym c.self.view_is in
    (ap (λ d. d.table) same, omega (arith, c.self.invariant.0))

pub split_off-given-requires-clause-may : goal.split_off-given-requires-clause-may
split_off-given-requires-clause-may c = splits_off _ _ _ _ (omega (arith, c.seat.invariant.0, ap (λ d. d.left) c.seat.view_is, c.requires.enough))
