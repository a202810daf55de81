use Rattle.via_trace.specs.Traces.{IsTraceOf}
use Rattle.chl_answers.specs.Commands.{trace_stop}
use Rattle.chl_outputs.proofs.StoppingAnswers.{HasAnswered}
use Rattle.chl_outputs.proofs.commands.trace.traces_of.Given as goal

abbrev pub invariant-loop-pair : goal.invariant-loop-pair
invariant-loop-pair l = HasAnswered (IsTraceOf l.traced) trace_stop l.pairs l.pair-index l.traces.items
