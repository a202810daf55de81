use Rattle.std.proofs.Common.{◌≡◌, inr, arith, true≢false, length, refl, sym, ap, subst, ◌∙◌}
use Rattle.walk_laws.specs.Labelling.{label_row}
use Rattle.hub_index.specs.NodeEntries.{entries_of_node}
use Rattle.hub_index.specs.Views.{IsNode}
use Rattle.pool_view.specs.Fitting.{order_of}
use Rattle.pool_view.specs.Viewing.{Viewing}
use Rattle.pool_view.proofs.PutViews.{is_node, not_past, own_is}
use Rattle.pool_view.proofs.view.PoolView.is_for_pool.Given as given
use Rattle.pool_view.proofs.view.PoolView.is_for_pool.Goals as goal
use Rattle.pool_view.proofs.view.PoolView.is_for_pool.Goals.{After-keeps_none}

pub keeps_none-requires : goal.keeps_none-requires
keeps_none-requires g c =
    let node = subst (λ (w : Viewing). IsNode (length (order_of w.seat.pool.fact)) c.args.v) (sym c.self.view_is) c.requires.node in
    record { node = is_node c.self.inside.seat c.self.inside.global c.self.inside.puts c.self.invariant.1 c.self.invariant.4 c.args.v node }

-- the own row is what was kept at the node
own : (g : given.Over) (c : After-keeps_none g) → label_row c.args.self.now.own c.args.v ≡ entries_of_node c.self.inside.puts.kept c.args.v
own g c =
    let node = subst (λ (w : Viewing). IsNode (length (order_of w.seat.pool.fact)) c.args.v) (sym c.self.view_is) c.requires.node in
    ap (λ (w : Viewing). label_row w.own c.args.v) (sym c.self.view_is) ∙ own_is c.self.inside.seat c.self.inside.global c.self.inside.puts c.self.invariant.1 c.self.invariant.4 c.args.v node

pub returns-clause-yes : goal.returns-clause-yes
returns-clause-yes g c is =
    let up = (goal.at.returns-clause-yes g c).After-keeps_none in (
      ap (λ (w : Viewing). w.seat.past) (sym c.self.view_is) ∙ (not_past c.self.inside.past c.self.inside.seat c.self.inside.puts c.if-self.false c.self.invariant.2).0,
      omega (arith, c.get.ensures.value, c.if-get-from.false, c.from.ensures),
      own g up ∙ c.keeps_none.ensures.0 is,
    )

pub returns-clause-no : goal.returns-clause-no
returns-clause-no g c is =
    let up = (goal.at.returns-clause-no g c).After-keeps_none in
    inr (refl, inr (λ none. absurd (true≢false (sym (c.keeps_none.ensures.1 (sym (own g up) ∙ none)) ∙ is))))
