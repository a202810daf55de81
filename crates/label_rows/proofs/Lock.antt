-- The lock that a seat has, or has not.
use Rattle.std.proofs.Common.{◌≡◌, ℕ, List, [], sym, ap, ◌∙◌}
use Rattle.std.specs.Prelude.{Option, Some, None}
use Rattle.walk_laws.specs.declared.entry.Entry.{Entry}
use Rattle.label_rows.specs.declared.rule.Held.{Held}
use Rattle.table_seats.specs.declared.seat_view.SeatView.{SeatView}
use Rattle.label_rows.specs.declared.rule.View.{View}
use Rattle.label_rows.specs.Lawful.{Holds}

held_node : Option Held → ℕ
held_node None = 0
held_node (Some held) = held.node

held_row : Option Held → List Entry
held_row None = []
held_row (Some held) = held.row

pub no_lock : (seat : SeatView View) (v : ℕ) (found : List Entry) → seat.knows.hold ≡ None → ¬ Holds seat v found
no_lock seat v found none holds = let wrong : None ≡ Some (record { node = v; row = found }) = sym none ∙ holds in absurd cc

-- a seat has one lock at a time
pub one_lock : (seat : SeatView View) (v u : ℕ) (row found : List Entry) → Holds seat v row → Holds seat u found → u ≡ v
unfolding held_node
one_lock seat v u row found a b = ap held_node (sym b ∙ a)

pub one_row : (seat : SeatView View) (v u : ℕ) (row found : List Entry) → Holds seat v row → Holds seat u found → found ≡ row
unfolding held_row
one_row seat v u row found a b = ap held_row (sym b ∙ a)
