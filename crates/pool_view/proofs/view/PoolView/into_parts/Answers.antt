use Rattle.std.proofs.Common.{length, ap, subst, ◌∙◌}
use Rattle.pool_view.specs.Fitting.{order_of}
use Rattle.pool_view.specs.Putting.{IsListOf}
use Rattle.pool_view.specs.Viewing.{Viewing}
use Rattle.pool_view.proofs.PutViews.{list_of, nodes_are}
use Rattle.pool_view.proofs.view.PoolView.into_parts.Goals as goal

pub returns-clause-puts : goal.returns-clause-puts
returns-clause-puts g c =
    subst (λ (w : Viewing). IsListOf w.seat w.list) c.self.view_is (list_of c.self.inside.past c.self.inside.seat c.self.inside.puts c.self.invariant.2 c.self.invariant.3)

pub returns-clause-own : goal.returns-clause-own
returns-clause-own g c = c.into_parts-own.ensures.own ∙ nodes_are c.self.inside.seat c.self.inside.global c.self.inside.puts c.self.invariant.1 c.self.invariant.4 ∙ ap (λ (w : Viewing). length (order_of w.seat.pool.fact)) c.self.view_is
