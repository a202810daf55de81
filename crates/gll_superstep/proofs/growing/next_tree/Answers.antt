use Rattle.std.proofs.Common.{[], ◌∷◌, refl, sym, ◌∙◌}
use Rattle.std.specs.Prelude.{IsOk}
use Rattle.std.proofs.lemmas.List.{append-nil}
use Rattle.pruned_tree.proofs.GrownPuts.{not_ok, IsGrownBy-none, IsGrownBy-tree}
use Rattle.pool_view.specs.Viewing.{puts_row}
use Rattle.gll_superstep.proofs.UncoveredPuts.{StayUncovered-none, StayUncovered-tree}
use Rattle.gll_superstep.proofs.growing.next_tree.Goals as goal

pub returns-in-End-clause-grown : goal.returns-in-End-clause-grown
returns-in-End-clause-grown g c =
    ([], c.in-End.ensures.end ∙ sym (append-nil c.args.seat.now.got), λ v node. IsGrownBy-none c.args.context.now.graph.now.edges c.args.context.now.ranking.now _ v (puts_row c.args.view.now v))

pub returns-in_err-puts-clause-grown : goal.returns-in_err-puts-clause-grown
returns-in_err-puts-clause-grown g c = (
  c.in-Root.p ∷ [],
  c.in-Root.ensures.root,
  λ v node. IsGrownBy-tree c.args.context.now.graph.now.edges c.args.context.now.ranking.now c.in-Root.p _ (puts_row c.args.view.now) (puts_row c.grow.new.view) _ c.in_err-puts.ensures.grown (IsOk c.from_residual.result)
      (λ ok. absurd (not_ok c.from_residual.result ok c.from_residual.ensures.0)) v node.from_one,
)

pub returns-clause-grown : goal.returns-clause-grown
returns-clause-grown g c = (
  c.in-Root.p ∷ [],
  c.in-Root.ensures.root,
  λ v node. IsGrownBy-tree c.args.context.now.graph.now.edges c.args.context.now.ranking.now c.in-Root.p _ (puts_row c.args.view.now) (puts_row c.grow.new.view) _ c.in_ok-puts.ensures.grown _ (λ _. refl) v node.from_one,
)

pub returns-in-End-clause-apart : goal.returns-in-End-clause-apart
returns-in-End-clause-apart g c = StayUncovered-none c.args.context.now.ranking.now c.args.view.now.global (puts_row c.args.view.now)

pub returns-in_err-puts-clause-apart : goal.returns-in_err-puts-clause-apart
returns-in_err-puts-clause-apart g c = StayUncovered-tree c.args.context.now.ranking.now c.args.context.now.graph.now.edges c.in-Root.p c.args.view.now (puts_row c.grow.new.view) _ c.in_err-puts.ensures.grown

pub returns-clause-apart : goal.returns-clause-apart
returns-clause-apart g c = StayUncovered-tree c.args.context.now.ranking.now c.args.context.now.graph.now.edges c.in-Root.p c.args.view.now (puts_row c.grow.new.view) _ c.in_ok-puts.ensures.grown
