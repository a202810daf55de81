use Rattle.std.proofs.lemmas.Slice.Zip.{AllZip-long}
use Rattle.via_trace.specs.Traces.{IsTraceOf}
use Rattle.chl_inputs.proofs.StagesInTurn.{goes_reads, goes_reads_stop}
use Rattle.chl_lines.specs.PrintedWalks.{trace_lines}
use Rattle.chl_answers.specs.Commands.{trace_stop}
use Rattle.chl_outputs.proofs.StoppingAnswers.{goes_answered, goes_stopped, traces_stop}
use Rattle.chl_outputs.proofs.TextAnswers.{goes_told, handed_on}
use Rattle.chl_outputs.proofs.commands.trace.traces_output.Goals as goal

pub returns-in_err-pairs : goal.returns-in_err-pairs
returns-in_err-pairs g c = handed_on c.from_residual.ensures.1 (goes_reads_stop (rw (c.n.ensures.value, c.index-index.ensures.order) at c.in_err-pairs.ensures.goes))

pub returns-in_err-traces : goal.returns-in_err-traces
returns-in_err-traces g c = handed_on c.from_residual-in_err-traces.ensures.1
    (goes_reads (rw (c.n.ensures.value, c.index-index.ensures.order) at c.in_ok-pairs.ensures.goes) (goes_stopped (IsTraceOf c.args.traced.now) trace_stop trace_lines _ traces_stop _ c.in_err-traces.ensures.err))

pub traces_of-requires-clause-index : goal.traces_of-requires-clause-index
traces_of-requires-clause-index g c = rw (c.index-index.ensures.order, c.index-index.ensures.rows) at c.n.ensures.well_formed

pub traces_of-requires-clause-within : goal.traces_of-requires-clause-within
traces_of-requires-clause-within g c = rw (c.n.ensures.value, c.index-index.ensures.order) at c.in_ok-pairs.ensures.within

pub trace_lines-requires : goal.trace_lines-requires
trace_lines-requires g c = rw (c.deref.ensures.value, c.list.ensures) (AllZip-long _ _ _ c.in_ok-traces.ensures.ok.0)

pub returns : goal.returns
returns g c =
    goes_reads (rw (c.n.ensures.value, c.index-index.ensures.order) at c.in_ok-pairs.ensures.goes)
    (goes_told _ _ c.trace_lines.result _ c.trace_lines.ensures c.text_output.ensures
    (λ t is. goes_answered (IsTraceOf c.args.traced.now) trace_stop trace_lines _ c.in_ok-traces.traces.items t.items c.in_ok-traces.ensures.ok.0 c.in_ok-traces.ensures.ok.1 (rw (c.list.ensures, c.deref.ensures.value) at is)))
