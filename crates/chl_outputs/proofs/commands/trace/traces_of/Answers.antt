use Rattle.std.proofs.Common.{sym, inr, length, arith}
use Rattle.via_trace.specs.Traces.{IsTraceOf}
use Rattle.via_trace.proofs.EachTrace.{trace_exists}
use Rattle.chl_answers.specs.Commands.{trace_stop}
use Rattle.chl_outputs.proofs.StoppingAnswers.{HasAnswered-step, HasAnswered-end, HasAnswered-stop}
use Rattle.chl_outputs.proofs.commands.trace.traces_of.Goals as goal

pub returns-in-Some-clause-err : goal.returns-in-Some-clause-err
returns-in-Some-clause-err c =
    inr (HasAnswered-stop (IsTraceOf c.args.traced.now) trace_stop c.args.pairs.now (length c.args.traced.now.order)
    (trace_exists c.args.traced.now c.requires.index c.requires.vias) c.requires.within c.loop-pair.pair-index c.loop-pair.traces.items (0, 0) c.in_ok-told.told c.in-Some.stop c.loop-pair.invariant
    (rw c.list-pair-items.ensures at c.loop-pair-test.true) (rw c.list-pair-items.ensures at c.in_ok-told.ensures.trace) (sym c.in-Some.ensures))

pub loop-pair-preserved : goal.loop-pair-preserved
loop-pair-preserved c =
    rw c.in_ok-push.ensures.items (HasAnswered-step (IsTraceOf c.args.traced.now) trace_stop c.args.pairs.now c.loop-pair.pair-index c.loop-pair.traces.items (0, 0) c.in_ok-told.told c.loop-pair.invariant
    (rw c.list-pair-items.ensures at c.loop-pair-test.true) (rw c.list-pair-items.ensures at c.in_ok-told.ensures.trace) (sym c.in_default.ensures))

pub returns-clause-ok : goal.returns-clause-ok
returns-clause-ok c = (
  HasAnswered-end (IsTraceOf c.args.traced.now) trace_stop c.args.pairs.now c.loop-pair.pair-index c.loop-pair.traces.items c.loop-pair.invariant (omega (arith, rw c.list-pair-items.ensures at c.loop-pair-test.false)),
  c.loop-pair.invariant.none,
)
