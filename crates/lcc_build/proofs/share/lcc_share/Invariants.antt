use Rattle.std.proofs.Common.{◌≡◌, true, false}
use Rattle.root_claims.specs.Seats.{IsSeatOf as IsClaimSeatOf}
use Rattle.label_rows.specs.Visits.{puts_of}
use Rattle.pruned_tree.specs.GrownBy.{HasGrown}
use Rattle.lcc_build.proofs.share.lcc_share.Given as goal

-- the seats are of the same claims and rows as before, and the trees of all roots that were claimed are grown
abbrev pub invariant-loop : goal.invariant-loop
invariant-loop g l =
    (goal.iterator-loop g).can_next l.iterator' × (goal.iterator-loop g).is_finite l.iterator'
    × (l.work ≡ l.graph.n)
    × IsClaimSeatOf l.claims l.seat × (l.seat.left ≡ l.fn.claim_seat.left) × (l.seat.over ≡ false)
    × (l.hand.rows ≡ l.rows) × (l.hand.left ≡ l.fn.row_seat.left)
    × HasGrown l.graph.edges l.ranking (true ≡ true) l.fn.claim_seat.got l.seat.got (puts_of l.fn.row_seat.visits) (puts_of l.hand.visits)
