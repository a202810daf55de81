use Rattle.std.proofs.Common.{sym, inr, length, arith}
use Rattle.hub_query.specs.Paths.{IsPathOf}
use Rattle.hub_query.proofs.PathsDecided.{path_exists}
use Rattle.chl_answers.specs.Commands.{walk_stop}
use Rattle.chl_outputs.proofs.StoppingAnswers.{HasAnswered-step, HasAnswered-end, HasAnswered-stop}
use Rattle.chl_outputs.proofs.commands.path.walks_of.Goals as goal

pub returns-in-Some-clause-err : goal.returns-in-Some-clause-err
returns-in-Some-clause-err c =
    inr (HasAnswered-stop (IsPathOf c.args.graph.now c.args.index.now) walk_stop c.args.pairs.now (length c.args.index.now.order)
    (λ u v. path_exists c.args.graph.now c.args.index.now u v c.requires.graph c.requires.index) c.requires.within c.loop-pair.pair-index c.loop-pair.walks.items (0, 0) c.in_ok-walk.walk c.in-Some.stop c.loop-pair.invariant
    (rw c.list-pair-items.ensures at c.loop-pair-test.true) (rw c.list-pair-items.ensures at c.in_ok-walk.ensures.path) (sym c.in-Some.ensures))

pub loop-pair-preserved : goal.loop-pair-preserved
loop-pair-preserved c =
    rw c.in_ok-push.ensures.items (HasAnswered-step (IsPathOf c.args.graph.now c.args.index.now) walk_stop c.args.pairs.now c.loop-pair.pair-index c.loop-pair.walks.items (0, 0) c.in_ok-walk.walk c.loop-pair.invariant
    (rw c.list-pair-items.ensures at c.loop-pair-test.true) (rw c.list-pair-items.ensures at c.in_ok-walk.ensures.path) (sym c.in_default.ensures))

pub returns-clause-ok : goal.returns-clause-ok
returns-clause-ok c = (
  HasAnswered-end (IsPathOf c.args.graph.now c.args.index.now) walk_stop c.args.pairs.now c.loop-pair.pair-index c.loop-pair.walks.items c.loop-pair.invariant (omega (arith, rw c.list-pair-items.ensures at c.loop-pair-test.false)),
  c.loop-pair.invariant.none,
)
