use Rattle.std.proofs.Common.{◌≡◌, true, false}
use Rattle.pruned_tree.specs.GrownBy.{HasGrown}
use Rattle.pool_view.specs.Fitting.{edges_of, order_of}
use Rattle.pool_view.specs.Viewing.{puts_row, view_kept}
use Rattle.gll_superstep.specs.Workers.{StayUncovered}
use Rattle.gll_superstep.proofs.growing.grow_trees.Given as goal

-- the seat is of the same claims as before, the view of the same rows, and the trees of all roots that were claimed are grown, over the global table
abbrev pub invariant-loop : goal.invariant-loop
invariant-loop g l =
    (goal.iterator-loop g).can_next l.iterator' × (goal.iterator-loop g).is_finite l.iterator'
    × (l.work ≡ l.context.graph.now.n)
    × (l.seat.claims ≡ l.fn.seat.claims) × (l.seat.left ≡ l.fn.seat.left) × (l.seat.over ≡ false)
    × (edges_of l.view.seat.pool.fact ≡ l.context.graph.now.edges) × (order_of l.view.seat.pool.fact ≡ l.context.ranking.now) × (view_kept l.view ≡ view_kept l.fn.view)
    × (l.fn.roots.items ≡ l.fn.seat.got → l.roots.items ≡ l.seat.got)
    × HasGrown l.context.graph.now.edges l.context.ranking.now (true ≡ true) l.fn.seat.got l.seat.got (puts_row l.fn.view) (puts_row l.view)
    × StayUncovered l.context.ranking.now l.fn.view.global (puts_row l.fn.view) (puts_row l.view)
