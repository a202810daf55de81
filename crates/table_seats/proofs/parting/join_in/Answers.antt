use Rattle.std.proofs.Common.{ℕ, sym, ◌∙◌, arith, subst}
use Rattle.atomic_table.specs.Table.{Allows, Me, step}
use mathlib.Core.Option.{none}
use Rattle.table_seats.specs.declared.seat_view.SeatView.{SeatView}
use Rattle.table_seats.specs.Seats.{looked}
use Rattle.table_seats.proofs.parting.join_in.Goals as goal

pub load-requires : goal.load-requires
load-requires g c =
    let e = c.join_seat.ensures in
    let slots = c.args.table.now.table_id.slots in
    let look_of : ℕ × Me g.row.S.Denot (SeatView g.row.W.Denot) → Type 0 = λ t. Allows (g.P.TableRule.holds c.args.table.now.key) slots t.0 t.1 0 (λ n. n) (looked g.T.Sees.sees (step slots 0 0 0 none) t.1) in
    (e.0 ∙ c.requires.table.0, omega (arith, c.requires.table.2), subst look_of (λ k. (sym e.1 k, sym e.2 k)) c.requires.look)
