use Rattle.std.proofs.Common.{◌≡◌, ℕ}
use Rattle.std.specs.Prelude.{Option}
use Rattle.table_seats.specs.Seats.{knowing}
use Rattle.label_pool.specs.Fillings.{with_next}
use Rattle.label_pool.specs.Steps.{with_filling}
use Rattle.label_pool.proofs.linking.link.Given as goal

-- the seat's cell is filled and not linked yet, whatever it names as its next
abbrev pub invariant-loop : goal.invariant-loop
invariant-loop g l =
    (goal.iterator-loop g).can_next l.iterator' × (goal.iterator-loop g).is_finite l.iterator'
    × (l.seat.table_id ≡ l.fn.seat.table_id) × (l.seat.id ≡ l.fn.seat.id)
    × ((next : Option ℕ) × (l.seat.me ≡ (knowing l.fn.seat.me.0 (with_filling l.fn.seat.me.0.knows (with_next next l.fn.seat.me.0.knows.filling)), l.fn.seat.me.1)))
